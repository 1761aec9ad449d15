use Rattle.std.proofs.Common.{◌≡◌, drop, map}
use Rattle.run_save_shots.specs.View.{cell_of}
use Rattle.run_save_format.specs.Whole.{broken_cell}
use Rattle.run_save_whole.proofs.cells.broken_cell.Given as goal

abbrev pub invariant-cells : goal.invariant-cells
invariant-cells l = broken_cell l.entries l.i (map cell_of (drop l.i l.cells)) ≡ broken_cell l.entries 0 (map cell_of l.cells)
