use Rattle.std.proofs.lemmas.Result.{on_err_weaker}
use Rattle.trace_buf.proofs.Passes.{on_err, passed_part, stopped_took}
use Rattle.trace_buf.proofs.lines.write_pieces.Goals as goal

pub returns-in_err-put_lines-clause-part : goal.returns-in_err-put_lines-clause-part
returns-in_err-put_lines-clause-part g c =
    on_err c.from_residual.result (stopped_took (rw c.new-piece.ensures at c.in_err-put_lines.ensures.stopped))

pub returns-clause-part : goal.returns-clause-part
returns-clause-part g c =
    let passed = rw c.new-piece.ensures at c.in_ok-put_lines.ensures.passed in
    on_err_weaker c.flush.result (λ part. passed_part passed part) c.flush.ensures.part
