use Rattle.std.proofs.Common.{arith}
use Rattle.trace_buf.proofs.Passes.{on_err, passed_byte, stopped_byte}
use Rattle.trace_buf.proofs.pieces.put_bytes.Goals as goal

pub returns-in_err-put-clause-stopped : goal.returns-in_err-put-clause-stopped
returns-in_err-put-clause-stopped g c =
    on_err c.from_residual.result (stopped_byte c.args.bytes.now c.loop-byte.byte-index 0 c.loop-byte-test.true c.loop-byte.invariant.passed
    c.in_err-put.ensures.stopped)

pub loop-byte-preserved : goal.loop-byte-preserved
loop-byte-preserved g c = record {
  passed = passed_byte c.args.bytes.now c.loop-byte.byte-index 0 c.loop-byte-test.true c.loop-byte.invariant.passed
      c.in_ok-put.ensures.passed;
  later = omega (arith, c.loop-byte.invariant.later, c.in_ok-put.ensures.later);
}
