use Rattle.std.proofs.Common.{◌≡◌, ◌++◌, drop}
use Rattle.verse_verify_faults.specs.Fitting.{each_fit}
use Rattle.verse_verify_notes.specs.View.{sorts_of, classes_of}
use Rattle.verse_verify_parts.proofs.stacks.do_both_fit.Given as goal

-- what is left gives the answer
abbrev pub invariant-low : goal.invariant-low
invariant-low l =
    each_fit (classes_of l.classes) (sorts_of (drop l.sort-index l.low) ++ sorts_of l.high) (sorts_of l.rest) ≡
    each_fit (classes_of l.classes) (sorts_of l.low ++ sorts_of l.high) (sorts_of l.others)
