use Rattle.std.proofs.Common.{◌-◌, length, subst, sym, ap, ◌∙◌}
use Rattle.std.specs.Prelude.{Some}
use Rattle.verse_verify_notes.specs.View.{table_of}
use Rattle.verse_verify.specs.Answers.{Answers}
use Rattle.verse_verify.proofs.Safe.{read_so, not_read}
use Rattle.verse_verify.proofs.verifying.judge.Goals as goal

pub returns-in-Ok : goal.returns-in-Ok
returns-in-Ok c = subst (Answers c.pass.result) (read_so c.args.code.now c.args.notes.now (table_of c.in-Ok.table) c.in-Ok.ensures)
    c.pass.ensures

pub returns-in-Err-Bad : goal.returns-in-Err-Bad
returns-in-Err-Bad c = not_read c.args.code.now c.args.notes.now c.in-Err-Bad.flaw (rw c.in-Err-Bad.field-0-is at c.in-Err-Bad.ensures) ∙
    ap (λ n. Some (1, n)) (sym c.saturating_sub.ensures)
