use Rattle.std.proofs.Common.{sym, ◌∙◌, arith}
use Rattle.verse_verify_notes.specs.View.{table_of}
use Rattle.verse_verify_tables.proofs.Overriding.{lacks}
use Rattle.verse_verify_tables.proofs.methods.do_all_override.Goals as goal

pub returns-in_default : goal.returns-in_default
returns-in_default c = sym (lacks c.args.code.now (table_of c.args.table.now) c.args.above.now c.methods.rest.now c.methods.other-index
    (omega (arith, c.methods-test.true)) c.in_default.ensures.cases) ∙ c.methods.invariant
