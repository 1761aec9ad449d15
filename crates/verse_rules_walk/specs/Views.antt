-- What a value of the code stands for.
use Rattle.std.specs.Option.{option_map}
use denote.Ref.{Bor}
use Rattle.verse_tree.specs.Tree.{Written}
use Rattle.verse_tree.specs.View.{written_of}
use Rattle.verse_tree.specs.declared.types.TyExpr.{TyExpr}
use Rattle.verse_rules_walk.specs.Around as w
use Rattle.verse_rules_walk.specs.declared.arounds.Used.{Used}
use Rattle.verse_rules_walk.specs.declared.arounds.Used.TheVariants as used
use Rattle.verse_rules_walk.specs.declared.arounds.Owner.{Owner}
use Rattle.verse_rules_walk.specs.declared.arounds.Around.{Around}

abbrev pub used_of : Used → w.Used
used_of used.Free = w.free
used_of used.Callee = w.callee
used_of used.Object = w.object
used_of (used.Argument f i) = w.argument f i
used_of (used.Value ty) = w.value (written_of ty.now)
used_of used.Target = w.target
used_of used.Base = w.base
used_of used.Spawned = w.spawned

abbrev pub now_written : Bor TyExpr → Written
now_written ty = written_of ty.now

abbrev pub owner_of : Owner → w.Owner
owner_of o = record {
  function = o.function;
  effects = o.effects;
  result =
      option_map now_written o.result;
}

abbrev pub around_of : Around → w.Around
around_of a = record {
  used = used_of a.used;
  owner = owner_of a.owner;
  enclosing = a.enclosing;
  is_caught = a.is_caught;
  is_tried = a.is_tried;
  is_deferred = a.is_deferred;
  may_return = a.may_return;
  may_break = a.may_break;
  repeats = a.repeats;
}
