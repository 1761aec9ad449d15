use Rattle.std.proofs.Common.{◌≡◌, ◌+◌, drop}
use Rattle.verse_verify_faults.specs.Faults.{same_numbers}
use Rattle.verse_verify_notes.specs.View.{spot_of}
use Rattle.verse_verify_parts.specs.Heres.{names_of}
use Rattle.verse_verify_parts.proofs.names.are_names_from.Given as goal

-- what is left gives the answer
abbrev pub invariant-numbers : goal.invariant-numbers
invariant-numbers l =
    (same_numbers (drop l.number-index l.numbers) (drop l.at (names_of (spot_of l.spot))) ≡
    same_numbers l.numbers (drop l.from (names_of (spot_of l.spot)))) × (l.at ≡ l.from + l.number-index)
