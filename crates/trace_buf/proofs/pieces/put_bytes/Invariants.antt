use Rattle.std.proofs.Common.{◌≤◌, take}
use Rattle.trace_buf.specs.Passing.{Passed}
use Rattle.trace_buf.proofs.pieces.put_bytes.Given as goal

abbrev pub invariant-loop-byte : goal.invariant-loop-byte
invariant-loop-byte g l =
    let taken = g.S.Sink.taken in
    let faults = g.S.Sink.faults in
    record {
      passed : Passed (taken l.fn.out) l.fn.piece (take l.byte-index l.bytes) (taken l.out) l.piece;
      later : faults l.fn.out ≤ faults l.out;
    }
