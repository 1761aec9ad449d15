use Rattle.std.proofs.Common.{sym, ap, ◌∙◌}
use Rattle.std.specs.Prelude.{◌&&◌}
use Rattle.verse_verify_notes.specs.View.{table_of}
use Rattle.verse_verify_faults.specs.Faults.{implies}
use Rattle.verse_verify_tables.proofs.methods.does_fail_as.Goals as goal

pub returns-then-do_sorts_fit : goal.returns-then-do_sorts_fit
returns-then-do_sorts_fit c =
    c.does_imply.ensures ∙ ap (λ b. b && implies c.args.code.now (table_of c.args.table.now) c.args.func.now.may_fail
    c.args.other.now.may_fail) (sym c.if-do_sorts_fit.true ∙ c.do_sorts_fit.ensures)
