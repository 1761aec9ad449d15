use Rattle.std.proofs.Common.{◌≡◌, drop}
use Rattle.verse_verify_notes.specs.View.{table_of}
use Rattle.verse_verify_faults.specs.Faults.{are_methods}
use Rattle.verse_verify_tables.proofs.methods.are_methods.Given as goal

-- what is left gives the answer
abbrev pub invariant-methods : goal.invariant-methods
invariant-methods l =
    are_methods l.code (table_of l.table) l.class (drop l.func-index l.methods) ≡
    are_methods l.code (table_of l.table) l.class l.methods
