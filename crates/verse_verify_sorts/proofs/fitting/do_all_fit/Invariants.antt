use Rattle.std.proofs.Common.{◌≡◌, drop}
use Rattle.verse_verify_faults.specs.Fitting.{all_fit}
use Rattle.verse_verify_notes.specs.View.{sort_of, sorts_of, classes_of}
use Rattle.verse_verify_sorts.proofs.fitting.do_all_fit.Given as goal

-- what is left gives the answer
abbrev pub invariant-sorts : goal.invariant-sorts
invariant-sorts l =
    all_fit (classes_of l.classes) (sorts_of (drop l.sort-index l.all)) (sort_of l.other) ≡
    all_fit (classes_of l.classes) (sorts_of l.all) (sort_of l.other)
