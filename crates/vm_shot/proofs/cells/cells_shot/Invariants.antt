use Rattle.std.proofs.Common.{◌≡◌, take, map}
use Rattle.run_save_shots.specs.View.{cell_of}
use Rattle.vm_shot.proofs.cells.cells_shot.Given as goal

-- what is kept of the cells so far
abbrev pub invariant-cells : goal.invariant-cells
invariant-cells g l =
    (g.H.Heap.state l.heap ≡ g.H.Heap.state l.fn.heap)
    × (map cell_of l.cells.items ≡ take l.address (g.H.Heap.state l.fn.heap).cells)
