use Rattle.std.proofs.Common.{◌≡◌, drop}
use Rattle.verse_verify_kept.specs.Rules.{sorts}
use Rattle.verse_verify_faults.specs.Fitting.{same_all}
use Rattle.verse_verify_notes.specs.View.{sorts_of}
use Rattle.verse_verify_sorts.proofs.sameness.+same.Given as goal

-- what is left of both gives the answer
abbrev pub invariant-are_same-sorts : goal.invariant-are_same-sorts
invariant-are_same-sorts l =
    same_all (sorts (sorts_of (drop l.sort-index l.all))) (sorts (sorts_of l.rest)) ≡
    same_all (sorts (sorts_of l.all)) (sorts (sorts_of l.others))
