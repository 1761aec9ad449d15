use Rattle.std.proofs.Common.{◌≡◌, [], ◌++◌, length, map, reverse}
use Rattle.run_save_shots.specs.View.{cell_of}
use Rattle.run_save_machine.proofs.cells.fill.Given as goal

abbrev pub invariant-all : goal.invariant-all
invariant-all g l = let state = g.H.Heap.state in record {
  so_far : (state l.heap).cells ++ map cell_of (reverse l.cells.items) ≡ map cell_of l.fn.cells.items;
  none : (state l.heap).copies ≡ [];
}

abbrev pub decreases-all : goal.decreases-all
decreases-all g l = length l.cells.items
