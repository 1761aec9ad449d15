use Rattle.std.proofs.Common.{◌≡◌, map, drop, length}
use Rattle.verse_verify_notes.specs.View.{func_of, table_of}
use Rattle.verse_verify_entries.specs.Entries.{least_from}
use Rattle.verse_verify_entries.proofs.entries.least_entry.Given as goal

-- what is left gives the answer
abbrev pub invariant-funcs : goal.invariant-funcs
invariant-funcs l =
    least_from l.code (table_of l.table) l.least l.number (drop l.number l.code.functions) (map func_of l.rest) ≡
    least_from l.code (table_of l.table) (length l.code.ops) 0 l.code.functions (table_of l.table).functions
