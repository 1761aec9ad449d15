use Rattle.std.proofs.Common.{◌≡◌, ◌+◌, ◌≤◌, length, min, drop}
use Rattle.verse_base.specs.TraceLine.{escaped, line_bytes}
use Rattle.trace_buf.proofs.sizes.line_size.Given as goal

abbrev pub invariant-loop-byte : goal.invariant-loop-byte
invariant-loop-byte l = record {
  same : min (l.size + length (escaped (drop l.byte-index l.text))) 18446744073709551615 ≡
      min (length (line_bytes l.now l.text)) 18446744073709551615;
  fits : l.size ≤ 18446744073709551615;
}
