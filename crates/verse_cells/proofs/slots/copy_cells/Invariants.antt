use Rattle.std.proofs.Common.{◌≡◌, ◌++◌, drop}
use Rattle.verse_cells.specs.View.{cells_of}
use Rattle.verse_cells.proofs.slots.copy_cells.Given as goal

abbrev pub invariant-cells : goal.invariant-cells
invariant-cells l = cells_of l.copies.items ++ cells_of (drop l.cell-index l.cells) ≡ cells_of l.cells
