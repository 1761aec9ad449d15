use Rattle.std.proofs.Common.{◌≡◌, map, drop}
use Rattle.verse_verify_notes.specs.View.{func_of, table_of}
use Rattle.verse_verify_faults.specs.Faults.{func_fault}
use Rattle.verse_verify_tables.proofs.functions.func_fault.Given as goal

-- what is left gives the answer
abbrev pub invariant-funcs : goal.invariant-funcs
invariant-funcs l =
    func_fault l.code (table_of l.table) l.func (map func_of (drop l.func l.table.functions.items)) ≡
    func_fault l.code (table_of l.table) 0 (table_of l.table).functions
