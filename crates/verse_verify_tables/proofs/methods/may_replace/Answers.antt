use Rattle.std.proofs.Common.{sym, ap, ◌∙◌}
use Rattle.std.specs.Prelude.{◌&&◌}
use Rattle.verse_verify_notes.specs.View.{table_of}
use Rattle.verse_verify_faults.specs.Faults.{implies}
use Rattle.verse_verify_tables.proofs.methods.may_replace.Goals as goal

pub returns-then-does_fail_as : goal.returns-then-does_fail_as
returns-then-does_fail_as c =
    c.does_imply.ensures ∙ ap (λ b. b && implies c.args.code.now (table_of c.args.table.now) c.args.func.now.may_wait
    c.args.other.now.may_wait) (sym c.if-does_fail_as.true ∙ c.does_fail_as.ensures)
