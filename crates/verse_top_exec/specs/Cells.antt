-- The lines of the heap, one after another.
use Rattle.std.specs.Prelude.{◌≡◌, ℕ, List, [], Bool, cond, take, unwrap_or, slice_get}
use Rattle.verse_value.specs.Store.{Cell, Store}
use Rattle.verse_value.specs.declared.runs.CellKind.TheVariants as cell
use Rattle.verse_meaning_state.specs.Texts.{heap_lines}

-- the cell of this address, where there is one
abbrev pub cell_at : Store → ℕ → Cell
cell_at cells address = unwrap_or (slice_get cells address)
    (record { kind = cell.Event; slots = [] })

-- the lines of the first n cells, where they are asked for
abbrev pub lines_of : Bool → Store → ℕ → List ℕ
lines_of asked cells n = cond asked (heap_lines 0 (take n cells)) []

abbrev pub FirstLines : Bool → Store → List ℕ → Type 0
FirstLines asked cells text = (n : ℕ) × (text ≡ lines_of asked cells n)
