use Rattle.std.proofs.Common.{◌≡◌, take}
use Rattle.verse_join_parts.proofs.copies.copied_specs.Given as goal

abbrev pub invariant-specs : goal.invariant-specs
invariant-specs l = l.copies ≡ take l.spec-index l.specs
