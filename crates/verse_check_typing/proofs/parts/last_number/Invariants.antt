use Rattle.std.proofs.Common.{◌≡◌, drop, map}
use Rattle.std.specs.Prelude.{None}
use Rattle.verse_tree.specs.View.{tree_of, trees}
use Rattle.verse_check_typing.specs.Parts.{last_from}
use Rattle.verse_check_typing.proofs.parts.last_number.Given as goal

-- the last of the rest is the last of all
abbrev pub invariant-parts : goal.invariant-parts
invariant-parts l = last_from l.last (trees (map tree_of (drop l.part-index l.parts))) ≡ last_from None (trees (map tree_of l.parts))
