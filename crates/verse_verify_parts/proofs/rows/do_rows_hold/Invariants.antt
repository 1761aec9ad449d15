use Rattle.std.proofs.Common.{◌≡◌, map, drop}
use Rattle.verse_verify_faults.specs.Stepping as t
use Rattle.verse_verify_faults.specs.Faults.{each_holds}
use Rattle.verse_verify_notes.specs.View.{sorts_of, classes_of}
use Rattle.verse_verify_parts.specs.Mades.{each_after}
use Rattle.verse_verify_parts.proofs.rows.do_rows_hold.Given as goal

-- what is left gives the answer
abbrev pub invariant-locals : goal.invariant-locals
invariant-locals l =
    each_holds (classes_of l.classes) (each_after (map t.is (sorts_of (drop l.local l.locals))) l.writes l.local) (sorts_of l.rest) ≡
    each_holds (classes_of l.classes) (each_after (map t.is (sorts_of l.locals)) l.writes 0) (sorts_of l.others)
