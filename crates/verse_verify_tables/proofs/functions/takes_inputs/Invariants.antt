use Rattle.std.proofs.Common.{◌≡◌, drop}
use Rattle.verse_verify_notes.specs.View.{sorts_of, table_of}
use Rattle.verse_verify_faults.specs.Faults.{takes_inputs}
use Rattle.verse_verify_tables.proofs.functions.takes_inputs.Given as goal

-- what is left gives the answer
abbrev pub invariant-params : goal.invariant-params
invariant-params l =
    takes_inputs l.code (table_of l.table) (sorts_of (drop l.sort-index l.params)) ≡
    takes_inputs l.code (table_of l.table) (sorts_of l.params)
