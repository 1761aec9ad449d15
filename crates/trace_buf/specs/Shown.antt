-- How a trace is seen in a buffer.
use Rattle.std.specs.Prelude.{◌≡◌, ℕ, ◌+◌, ◌-◌, ◌≤◌, List, [], ◌∷◌, length, map, take, reverse}
use Rattle.verse_base.specs.declared.limits.TheConstants.{MOST_TRACE_BYTES}
use Rattle.trace_buf.specs.declared.buffers.Mark.{Mark}
use Rattle.trace_buf.specs.declared.buffers.TraceBuf.TheInside.{Inside}
use Rattle.trace_buf.specs.Trace.{Trace, printed}
use Rattle.trace_buf.specs.Lines.{line_of}

-- the lines at each mark, the newest first: a mark counts the lines that are gone too
abbrev pub copies : ℕ → List (ℕ × List ℕ) → List Mark → List (List (ℕ × List ℕ))
copies gone kept [] = []
copies gone kept (m ∷ ms) = take (m.lines - gone) kept ∷ copies gone (take (m.lines - gone) kept) ms

abbrev pub trace_of : Inside → Trace
trace_of s = record {
  kept = map line_of s.lines.items;
  marks = copies s.drained_lines (map line_of s.lines.items) (reverse s.marks.items);
  bytes = s.drained_bytes;
  lines = s.drained_lines;
}

-- each mark stands within the lines of the next newer one, and knows their printed bytes
abbrev pub Stands : ℕ → ℕ → List (ℕ × List ℕ) → List Mark → Type 0
Stands gone bytes kept [] = Unit {0}
Stands gone bytes kept (m ∷ ms) =
    (gone ≤ m.lines) × (m.lines ≤ gone + length kept)
    × (m.bytes ≡ bytes + length (printed (take (m.lines - gone) kept)))
    × Stands gone bytes (take (m.lines - gone) kept) ms

pub record IsWhole (s : Inside) : Type 0 where
  pub size : s.bytes ≡ s.drained_bytes + length (printed (map line_of s.lines.items))
  pub limit : s.bytes ≤ MOST_TRACE_BYTES
  pub few : s.drained_lines ≤ s.drained_bytes
  pub stands : Stands s.drained_lines s.drained_bytes (map line_of s.lines.items)
      (reverse s.marks.items)
