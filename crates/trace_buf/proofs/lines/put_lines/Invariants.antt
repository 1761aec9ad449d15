use Rattle.std.proofs.Common.{◌≤◌, map, take}
use Rattle.trace_buf.specs.Lines.{line_of}
use Rattle.trace_buf.specs.Passing.{Passed}
use Rattle.trace_buf.specs.Trace.{printed}
use Rattle.trace_buf.proofs.lines.put_lines.Given as goal

abbrev pub invariant-loop-line : goal.invariant-loop-line
invariant-loop-line g l =
    let taken = g.S.Sink.taken in
    let faults = g.S.Sink.faults in
    record {
      passed : Passed (taken l.fn.out) l.fn.piece (printed (take l.line-index (map line_of l.lines))) (taken l.out) l.piece;
      later : faults l.fn.out ≤ faults l.out;
    }
