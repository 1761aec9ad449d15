-- Cells by address, and how often they were accessed.
use Rattle.std.specs.Prelude.{ℕ, ◌+◌, min, List}
use Rattle.verse_value.specs.Store.{Store}
use Rattle.verse_cells.specs.declared.slots.Cell.{Cell}
use Rattle.verse_cells.specs.View.{cells_of}

pub record Held : Type 0 where
  pub cells : List Cell
  pub accesses : ℕ

abbrev pub store_of : Held → Store
store_of h = cells_of h.cells

-- one access more; the count stands at its last value
abbrev pub counted : ℕ → ℕ
counted n = min (n + 1) 18446744073709551615

abbrev pub touched : Held → Held
touched h = record h { accesses = counted h.accesses }
