use Rattle.std.proofs.Common.{arith}
use Rattle.trace_buf.proofs.LinePasses.{lines_passed, lines_stopped}
use Rattle.trace_buf.proofs.Passes.{on_err}
use Rattle.trace_buf.proofs.lines.put_lines.Goals as goal

pub returns-in_err-put_line-clause-stopped : goal.returns-in_err-put_line-clause-stopped
returns-in_err-put_line-clause-stopped g c =
    on_err c.from_residual.result (lines_stopped c.args.lines.now c.loop-line.line-index c.line-item.result c.as_slice.result.now
    c.loop-line-test.true c.line-item.is c.as_slice.ensures.value c.loop-line.invariant.passed c.in_err-put_line.ensures.stopped)

pub loop-line-preserved : goal.loop-line-preserved
loop-line-preserved g c = record {
  passed = lines_passed c.args.lines.now c.loop-line.line-index c.line-item.result c.as_slice.result.now c.loop-line-test.true
      c.line-item.is c.as_slice.ensures.value c.loop-line.invariant.passed c.in_ok-put_line.ensures.passed;
  later = omega (arith, c.loop-line.invariant.later, c.in_ok-put_line.ensures.later);
}
