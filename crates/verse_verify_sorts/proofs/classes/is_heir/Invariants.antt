use Rattle.std.proofs.Common.{◌≡◌, ◌-◌, length}
use Rattle.verse_verify_faults.specs.Fitting.{heir}
use Rattle.verse_verify_notes.specs.View.{classes_of}
use Rattle.verse_verify_sorts.proofs.classes.is_heir.Given as goal

-- what is left to climb gives the answer
abbrev pub invariant-parents : goal.invariant-parents
invariant-parents l =
    let cs = classes_of l.classes in
    heir (length cs - l._i) cs l.at l.other ≡ heir (length cs) cs l.class l.other
