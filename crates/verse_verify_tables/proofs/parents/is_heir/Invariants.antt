use Rattle.std.proofs.Common.{◌≡◌, ◌-◌, length}
use Rattle.verse_verify_notes.specs.View.{table_of}
use Rattle.verse_verify_faults.specs.Fitting.{heir}
use Rattle.verse_verify_tables.proofs.parents.is_heir.Given as goal

-- what is left gives the answer
abbrev pub invariant-up : goal.invariant-up
invariant-up l =
    let cs = (table_of l.table).classes in
    heir (length cs - l._i) cs l.at l.other ≡ heir (length cs) cs l.class l.other
