use Rattle.std.proofs.Common.{◌≤◌, take}
use Rattle.verse_base.specs.TraceLine.{escaped}
use Rattle.trace_buf.specs.Passing.{Passed}
use Rattle.trace_buf.proofs.lines.put_text.Given as goal

abbrev pub invariant-loop-byte : goal.invariant-loop-byte
invariant-loop-byte g l =
    let taken = g.S.Sink.taken in
    let faults = g.S.Sink.faults in
    record {
      passed : Passed (taken l.fn.out) l.fn.piece (escaped (take l.byte-index l.text)) (taken l.out) l.piece;
      later : faults l.fn.out ≤ faults l.out;
    }
