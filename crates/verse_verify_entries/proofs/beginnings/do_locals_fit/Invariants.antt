use Rattle.std.proofs.Common.{◌≡◌, ◌++◌, drop}
use Rattle.verse_verify_kept.specs.Rules.{nones}
use Rattle.verse_verify_faults.specs.Fitting.{each_fit}
use Rattle.verse_verify_notes.specs.View.{sorts_of, classes_of}
use Rattle.verse_verify_entries.proofs.beginnings.do_locals_fit.Given as goal

-- what is left gives the answer
abbrev pub invariant-params : goal.invariant-params
invariant-params l =
    each_fit (classes_of l.classes) (sorts_of (drop l.sort-index l.params) ++ nones l.count) (sorts_of l.rest) ≡
    each_fit (classes_of l.classes) (sorts_of l.params ++ nones l.count) (sorts_of l.others)
