use Rattle.std.proofs.Common.{◌≡◌, drop}
use Rattle.verse_verify_kept.specs.Rules.{sorts}
use Rattle.verse_verify_faults.specs.Fitting.{fit_each}
use Rattle.verse_verify_notes.specs.View.{sorts_of, classes_of}
use Rattle.verse_verify_sorts.proofs.fitting.+fit.Given as goal

-- what is left of both gives the answer
abbrev pub invariant-parts_fit-parts : goal.invariant-parts_fit-parts
invariant-parts_fit-parts l =
    fit_each (classes_of l.classes) (sorts (sorts_of (drop l.part-index l.parts))) (sorts (sorts_of l.rest)) ≡
    fit_each (classes_of l.classes) (sorts (sorts_of l.parts)) (sorts (sorts_of l.others))
