use Rattle.std.proofs.Common.{◌≡◌, drop}
use Rattle.verse_verify_faults.specs.Stepping.{all_shown}
use Rattle.verse_verify_notes.specs.View.{sorts_of}
use Rattle.verse_verify_parts.specs.Heres.{classes_in}
use Rattle.verse_verify_operands.proofs.asking.are_shown.Given as goal

-- what is left gives the answer
abbrev pub invariant-sorts : goal.invariant-sorts
invariant-sorts l =
    all_shown (classes_in l.here) (sorts_of (drop l.sort-index l.sorts)) ≡ all_shown (classes_in l.here) (sorts_of l.sorts)
