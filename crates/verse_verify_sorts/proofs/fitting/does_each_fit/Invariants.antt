use Rattle.std.proofs.Common.{◌≡◌, drop}
use Rattle.verse_verify_faults.specs.Fitting.{each_fit}
use Rattle.verse_verify_notes.specs.View.{sorts_of, classes_of}
use Rattle.verse_verify_sorts.proofs.fitting.does_each_fit.Given as goal

-- what is left of both gives the answer
abbrev pub invariant-sorts : goal.invariant-sorts
invariant-sorts l =
    each_fit (classes_of l.classes) (sorts_of (drop l.sort-index l.all)) (sorts_of l.rest) ≡
    each_fit (classes_of l.classes) (sorts_of l.all) (sorts_of l.others)
