-- A kept line as it is seen.
use Rattle.std.specs.Prelude.{ℕ, List}
use Rattle.trace_buf.specs.declared.lines.Kept.{Kept}

abbrev pub line_of : Kept → ℕ × List ℕ
line_of k = (k.now, k.text.items)
