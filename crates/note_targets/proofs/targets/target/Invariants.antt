use Rattle.std.proofs.Common.{◌≡◌, ◌≤◌}
use Rattle.verse_tree.specs.View.{tree_of}
use Rattle.lower_code.specs.Lowering.{target_operands}
use Rattle.lower_lookup.specs.Members.{base_view}
use Rattle.note_stretches.specs.Noted.{noted, walked}
use Rattle.lower_expr.specs.Locals.{scope_of}
use Rattle.lower_calls.specs.Aims.{levels, under}
use Rattle.note_targets.specs.Targets.{target_walk}
use Rattle.note_targets.proofs.targets.target.Given as goal

-- what stands before the indices that are left is there
abbrev pub invariant-levels : goal.invariant-levels
invariant-levels g l = record {
  scopes : scope_of l.scopes ≡ scope_of l.fn.scopes;
  within : l.left ≤ levels (tree_of l.whole);
  count : l.count ≡ target_operands (under l.left (tree_of l.whole));
  states : noted l.noting ≡
      walked (target_walk l.noter.tables.now.program.now (under l.left (tree_of l.whole)) (base_view l.base)
      (scope_of l.fn.scopes) l.fn.around) (noted l.fn.noting);
}

abbrev pub decreases-levels : goal.decreases-levels
decreases-levels g l = l.left
