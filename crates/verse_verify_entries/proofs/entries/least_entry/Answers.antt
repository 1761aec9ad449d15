use Rattle.std.proofs.Common.{sym, ap, length, ◌∙◌, arith}
use Rattle.verse_verify_notes.specs.View.{table_of}
use Rattle.verse_verify_entries.proofs.Nothing.{no_notes}
use Rattle.verse_verify_entries.proofs.entries.least_entry.Goals as goal

pub returns-in_default : goal.returns-in_default
returns-in_default c =
    sym (no_notes c.args.code.now (table_of c.args.table.now) c.funcs.least c.funcs.number c.args.code.now.functions c.funcs.rest.now
    c.funcs.number (omega (arith, c.funcs-test.true, ap length c.as_slice-func-items.ensures)) c.in_default.ensures.cases) ∙
    c.funcs.invariant
