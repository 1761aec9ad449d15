-- A trace: the lines that it keeps, the copies of them at its open marks, and what was drained.
use Rattle.std.specs.Prelude.{ℕ, ◌+◌, List, [], ◌∷◌, ◌++◌, length, map, drop}
use Rattle.std.specs.List.{flat_map}
use Rattle.verse_base.specs.TraceLine.{line_bytes}

-- a line is its moment in milliseconds and its text
pub record Trace : Type 0 where
  -- the lines that are kept, the oldest first
  pub kept : List (ℕ × List ℕ)
  -- the kept lines as they stood at each open mark, the newest mark first
  pub marks : List (List (ℕ × List ℕ))
  -- the printed bytes of the lines that were drained
  pub bytes : ℕ
  -- how many lines were drained
  pub lines : ℕ

abbrev pub line_text : ℕ × List ℕ → List ℕ
line_text line = line_bytes line.0 line.1

abbrev pub printed : List (ℕ × List ℕ) → List ℕ
printed lines = flat_map line_text lines

-- the printed bytes of all lines that stand, the drained ones counted
abbrev pub printed_size : Trace → ℕ
printed_size t = t.bytes + length (printed t.kept)

abbrev pub with_line : Trace → ℕ → List ℕ → Trace
with_line t now text = record t { kept = t.kept ++ (now, text) ∷ [] }

abbrev pub marked : Trace → Trace
marked t = record t { marks = t.kept ∷ t.marks }

abbrev pub committed : Trace → Trace
committed t = record t { marks = drop 1 t.marks }

-- the lines at the newest mark
abbrev pub newest : List (ℕ × List ℕ) → List (List (ℕ × List ℕ)) → List (ℕ × List ℕ)
newest kept [] = kept
newest kept (m ∷ ms) = m

abbrev pub rolled_back : Trace → Trace
rolled_back t = record t { kept = newest t.kept t.marks; marks = drop 1 t.marks }

-- the lines at the oldest mark: those that stand outside every open mark
abbrev pub outside : List (ℕ × List ℕ) → List (List (ℕ × List ℕ)) → List (ℕ × List ℕ)
outside kept [] = kept
outside kept (m ∷ ms) = outside m ms

-- the lines outside every open mark are taken off the list and off every copy, and are counted
abbrev pub drained : Trace → Trace
drained t =
    let gone = outside t.kept t.marks in
    record {
      kept = drop (length gone) t.kept;
      marks = map (drop (length gone)) t.marks;
      bytes = t.bytes + length (printed gone);
      lines = t.lines + length gone;
    }
