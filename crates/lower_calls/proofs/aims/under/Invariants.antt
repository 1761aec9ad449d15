use Rattle.std.proofs.Common.{◌≡◌}
use Rattle.verse_tree.specs.View.{tree_of}
use Rattle.lower_calls.specs.Aims.{under}
use Rattle.lower_calls.proofs.aims.under.Given as goal

abbrev pub invariant-levels : goal.invariant-levels
invariant-levels l = tree_of l.at ≡ under l._level (tree_of l.target)
