-- The types that written types spell, and what is known of functions and methods.
use Rattle.std.specs.Prelude.{ℕ, List, map, Option, Some, None}
use Rattle.verse_tree.specs.Tree.{Bytes, Written, Writtens, no_writtens, more_writtens}
use Rattle.verse_tree.specs.Tree as t
use Rattle.verse_tree.specs.ItemTree.{ParamTree, FunTree}
use Rattle.verse_tree.specs.declared.tables.Ref.{Ref}
use Rattle.verse_tree.specs.declared.tables.Ref.TheVariants as ref
use Rattle.verse_tree.specs.declared.tables.Effects.{Effects}
use Rattle.verse_tree.specs.declared.tables.FunInfo.{FunInfo}
use Rattle.verse_rules_types.specs.Types.{Ty, Tys, never, void, int, logic, char, string, enum}
use Rattle.verse_rules_types.specs.Types.{class, option, array, task, event, mapping, tuple}
use Rattle.verse_rules_types.specs.Types.{no_tys, more_tys, ty_of}
use Rattle.verse_names_tables.specs.Names.{Table, look}
use Rattle.verse_names_tables.specs.Words.{effects_of}

abbrev pub ref_type : Ref → Ty
ref_type (ref.Class c) = class c
ref_type (ref.Enum e) = enum e
ref_type r = never

-- a name that stands for no type spells never
abbrev pub named_type : Option Ref → Ty
named_type None = never
named_type (Some r) = ref_type r

abbrev mutual
  -- the type that is spelled, by the classes and enums that names stand for
  pub spelled : Table → Written → Ty
  spelled ts t.Written.int = int
  spelled ts t.Written.logic = logic
  spelled ts t.Written.char = char
  spelled ts t.Written.string = string
  spelled ts t.Written.void = void
  spelled ts (t.Written.named number place x) = named_type (look x ts)
  spelled ts (t.Written.option w) = option (spelled ts w)
  spelled ts (t.Written.array w) = array (spelled ts w)
  spelled ts (t.Written.task w) = task (spelled ts w)
  spelled ts (t.Written.map k w) = mapping (spelled ts k) (spelled ts w)
  spelled ts (t.Written.tuple ws) = tuple (all_spelled ts ws)
  spelled ts (t.Written.event w) = event (spelled ts w)
  spelled ts t.Written.bare_event = event void

  pub all_spelled : Table → Writtens → Tys
  all_spelled ts no_writtens = no_tys
  all_spelled ts (more_writtens w ws) = more_tys (spelled ts w) (all_spelled ts ws)

-- a function or a method, by the types of its parameters and its result
pub record Function : Type 0 where
  pub params : List Ty
  pub result : Ty
  pub effects : Effects
  -- the number of the node of its item
  pub item : ℕ

abbrev pub function_of : FunInfo → Function
function_of f = record {
  params = map ty_of f.params;
  result = ty_of f.result;
  effects = f.effects;
  item = f.item;
}

abbrev pub param_type : Table → ParamTree → Ty
param_type ts p = spelled ts p.written

abbrev pub fun_function : Table → FunTree → Function
fun_function ts f = record {
  params = map (param_type ts) f.params;
  result = spelled ts f.written;
  effects = effects_of f.effects;
  item = f.number;
}
