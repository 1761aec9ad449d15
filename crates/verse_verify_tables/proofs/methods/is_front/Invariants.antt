use Rattle.std.proofs.Common.{◌≡◌, drop}
use Rattle.verse_verify_notes.specs.View.{sorts_of, table_of}
use Rattle.verse_verify_faults.specs.Faults.{prefix}
use Rattle.verse_verify_tables.proofs.methods.is_front.Given as goal

-- what is left gives the answer
abbrev pub invariant-sorts : goal.invariant-sorts
invariant-sorts l =
    prefix l.code (table_of l.table) (sorts_of (drop l.sort-index l.front)) (sorts_of l.rest) ≡
    prefix l.code (table_of l.table) (sorts_of l.front) (sorts_of l.whole)
