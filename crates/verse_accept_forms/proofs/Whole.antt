-- What plain forms and callees need, from what is found at their nodes.
use Rattle.std.proofs.Common.{◌≡◌, ℕ, Bool, true, List, ap, ◌∙◌}
use Rattle.std.proofs.lemmas.Bool.{not-false}
use Rattle.verse_tree.specs.Tree.{Tree, tree, Trees}
use Rattle.verse_tree.specs.Tree as t
use Rattle.verse_tree.specs.ItemTree.{ItemTree}
use Rattle.verse_rules_walk.specs.Around.{Around, used_as, indexed}
use Rattle.verse_rules_walk.specs.Around as around
use Rattle.verse_names_tables.specs.Names.{Table}
use Rattle.verse_names_scopes.specs.Visible.{World}
use Rattle.verse_check_typing.specs.Facts.{type_of}
use Rattle.verse_check_typing.specs.Keys.{has_keys}
use Rattle.verse_meaning.specs.Residuals as form
use Rattle.verse_meaning.specs.Evaluating.{picked}
use Rattle.verse_accept_scopes.specs.Holding.{OnPart}
use Rattle.verse_accept_rows.specs.Found.{final, Found}
use Rattle.verse_accept_fine.specs.Sorted.{ty_at}
use Rattle.verse_accept_fine.proofs.Base.{its_row, types}
use Rattle.verse_accept_forms.specs.Plain.{PlainNeeds}
use Rattle.verse_accept_forms.specs.Callees.{CalleesNeed}
use Rattle.verse_accept_forms.proofs.Plain as p
use Rattle.verse_accept_forms.proofs.CalleeKinds.{kind_of}
use Rattle.verse_accept_forms.proofs.CallForms as b
use Rattle.verse_accept_forms.proofs.Spawns as s

pub plain_needs : PlainNeeds
plain_needs is r v w a xs m h n q = record {
  integer = p.integer_fits is r v w a xs m h n q;
  character = p.character_fits is r v w a xs m h n q;
  text = p.text_fits is r v w a xs m h n q;
  truth = p.truth_fits is r v w a xs m h n q;
  falsehood = p.falsehood_fits is r v w a xs m h n q;
  defer = p.defer_fits is r v w a xs m h n q;
  constant = p.constant_fits is r v w a xs m h n q;
  typed = p.typed_gives is r v w a xs m h n q;
  variable = p.variable_gives is r v w a xs m h n q;
  returned = p.may_return is r v w a xs m h n q;
  returned_unit = p.may_return_unit is r v w a xs m h n q;
  if_alone = p.if_fits is r v w a xs m h n q;
  negation = p.negation_fits is r v w a xs m h n q;
  logic = p.logic_fits is r v w a xs m h n q;
  quotient = p.quotient_stands is r v w a xs m h n q;
  named = p.name_stands is r v w a xs m h n q;
  event = p.event_fits is r v w a xs m h n q;
  bare_event = p.bare_event_fits is r v w a xs m h n q;
  for_form = p.for_fits is r v w a xs m h n q;
  block_form = p.block_fits is r v w a xs m h n q;
  branch = p.branch_fits is r v w a xs m h n q;
  sleep = p.sleep_fits is r v w a xs m h n q;
  sleep_forever = p.sleep_forever_fits is r v w a xs m h n q;
}

-- what is indexed has keys that can be keys
keyed : (is : List ItemTree) (w : World) (a : Around) (xs : Table) (n : ℕ) (e : Tree) → OnPart (Found is) w n a xs e →
    has_keys (type_of (final is) e) ≡ true
keyed is w a xs n (tree m q x) h = ap has_keys (its_row is w a xs m q x h.2) ∙ not-false _ (types is w a xs m q x h.2).keyed

pub callees_need : CalleesNeed
callees_need is stand quiet r v told w a xs m h names n q = record {
  call = λ e ts at used on args.
      b.call_by is r v w a xs m h n q e ts at stand used args
      (kind_of is r v w a xs m h n q stand quiet names (picked ts) q told n (used_as around.callee a) e on);
  index = λ e ts at used path on args.
      b.index_by is r v w a xs m h n q e ts at stand used path (keyed is w (indexed a) xs n e on) args
      (kind_of is r v w a xs m h n q stand quiet names form.indexing q told n (indexed a) e on);
  spawn = λ e at on. s.spawn_gives is r v w a xs m h n q stand quiet names told e at on;
  member = λ e x at plain y z pl k. s.member_gives is r v w a xs m h n q quiet e x at plain y z pl k;
}
