use Rattle.std.proofs.Common.{◌≡◌, ◌-◌, length}
use Rattle.verse_verify_notes.specs.View.{table_of}
use Rattle.verse_verify_faults.specs.Faults.{comes_back}
use Rattle.verse_verify_tables.proofs.parents.does_come_back.Given as goal

-- what is left gives the answer
abbrev pub invariant-up : goal.invariant-up
invariant-up l =
    let t = table_of l.table in
    comes_back l.code t (length t.classes - l._i) l.class l.next ≡ comes_back l.code t (length t.classes) l.class l.fn.first
