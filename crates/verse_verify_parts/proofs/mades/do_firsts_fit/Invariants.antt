use Rattle.std.proofs.Common.{◌≡◌, ◌+◌, ◌≤◌, length}
use Rattle.verse_verify_faults.specs.Fitting.{all_fit}
use Rattle.verse_verify_faults.specs.Stepping.{firsts}
use Rattle.verse_verify_notes.specs.View.{sort_of, sorts_of, classes_of}
use Rattle.verse_verify_parts.proofs.mades.do_firsts_fit.Given as goal

-- what is left gives the answer
abbrev pub invariant-pairs : goal.invariant-pairs
invariant-pairs l =
    (all_fit (classes_of l.classes) (firsts (sorts_of l.rest)) (sort_of l.other) ≡
    all_fit (classes_of l.classes) (firsts (sorts_of l.pairs)) (sort_of l.other)) × (length l.rest + l._i ≤ length l.pairs)
