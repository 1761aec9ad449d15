use Rattle.std.proofs.Common.{◌≡◌, map, length}
use Rattle.verse_tree.specs.ItemView.{spec_of}
use Rattle.verse_effects.specs.Specifiers.{at_most_once}
use Rattle.verse_effects.proofs.specifiers.is_at_most_once.Given as goal

abbrev pub invariant-specs : goal.invariant-specs
invariant-specs l = at_most_once l.name (map spec_of l.rest) ≡ at_most_once l.name (map spec_of l.specs)

abbrev pub decreases-specs : goal.decreases-specs
decreases-specs l = length l.rest
