use Rattle.std.proofs.Common.{◌≡◌, drop}
use Rattle.verse_verify_notes.specs.View.{classes_of, table_of}
use Rattle.verse_verify_faults.specs.Faults.{class_fault}
use Rattle.verse_verify_tables.proofs.classes.class_fault.Given as goal

-- what is left gives the answer
abbrev pub invariant-classes : goal.invariant-classes
invariant-classes l =
    class_fault l.code (table_of l.table) l.class (classes_of (drop l.class l.table.classes.items)) l.rest ≡
    class_fault l.code (table_of l.table) 0 (table_of l.table).classes l.code.classes
