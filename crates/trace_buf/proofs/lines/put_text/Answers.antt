use Rattle.std.proofs.Common.{arith}
use Rattle.verse_base.specs.TraceLine.{escaped_byte}
use Rattle.trace_buf.proofs.Passes.{on_err, passed_at, stopped_at}
use Rattle.trace_buf.proofs.lines.put_text.Goals as goal

pub returns-in_err-put_escaped-clause-stopped : goal.returns-in_err-put_escaped-clause-stopped
returns-in_err-put_escaped-clause-stopped g c =
    on_err c.from_residual.result (stopped_at escaped_byte c.args.text.now c.loop-byte.byte-index 0 c.loop-byte-test.true
    c.loop-byte.invariant.passed c.in_err-put_escaped.ensures.stopped)

pub loop-byte-preserved : goal.loop-byte-preserved
loop-byte-preserved g c = record {
  passed = passed_at escaped_byte c.args.text.now c.loop-byte.byte-index 0 c.loop-byte-test.true c.loop-byte.invariant.passed
      c.in_ok-put_escaped.ensures.passed;
  later = omega (arith, c.loop-byte.invariant.later, c.in_ok-put_escaped.ensures.later);
}
