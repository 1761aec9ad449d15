-- Which cell a `Cell` is.
use Rattle.std.specs.Prelude.{List, map}
use Rattle.verse_value.specs.View.{vals_of}
use Rattle.verse_value.specs.Store as store
use Rattle.verse_cells.specs.declared.slots.Cell.{Cell}

abbrev pub cell_of : Cell → store.Cell
cell_of c = record { kind = c.kind; slots = vals_of c.slots }

abbrev pub cells_of : List Cell → store.Store
cells_of = map cell_of
