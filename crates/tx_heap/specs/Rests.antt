-- A read that lends leaves the cells, with one access more.
use Rattle.std.specs.Prelude.{◌≡◌}
use Rattle.std.specs.Borrow.{Fml, MutBor}
use Rattle.std.specs.Io.BufRead.{Rests}
use Rattle.verse_cells.specs.Held.{Held, touched}
use Rattle.tx_heap.specs.contracts.light_cells.LightCells.{the_row}

abbrev pub RestsTouched : MutBor Held → Fml
RestsTouched c = Rests the_row c (λ n. n ≡ touched c.now)
