use Rattle.std.proofs.Common.{◌≡◌, drop}
use Rattle.verse_verify_faults.specs.Faults.{same_numbers}
use Rattle.verse_verify_parts.proofs.parts.are_same_numbers.Given as goal

-- what is left gives the answer
abbrev pub invariant-numbers : goal.invariant-numbers
invariant-numbers l =
    same_numbers (drop l.number-index l.numbers) l.rest ≡ same_numbers l.numbers l.others
