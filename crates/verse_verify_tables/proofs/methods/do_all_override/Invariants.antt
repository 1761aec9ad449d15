use Rattle.std.proofs.Common.{◌≡◌, drop}
use Rattle.verse_verify_notes.specs.View.{table_of}
use Rattle.verse_verify_faults.specs.Faults.{all_override}
use Rattle.verse_verify_tables.proofs.methods.do_all_override.Given as goal

-- what is left gives the answer
abbrev pub invariant-methods : goal.invariant-methods
invariant-methods l =
    all_override l.code (table_of l.table) (drop l.other-index l.above) l.rest ≡
    all_override l.code (table_of l.table) l.above l.methods
