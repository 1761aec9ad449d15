use Rattle.std.proofs.Common.{◌≡◌, map, drop}
use Rattle.verse_tree.specs.ItemView.{spec_of}
use Rattle.verse_rules_walk.specs.Specifiers.{writes}
use Rattle.verse_rules_walk.proofs.arounds.does_write.Given as goal

abbrev pub invariant-specs : goal.invariant-specs
invariant-specs l = writes l.name (map spec_of (drop l.spec-index l.specs)) ≡ writes l.name (map spec_of l.specs)
