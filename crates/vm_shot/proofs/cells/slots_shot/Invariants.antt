use Rattle.std.proofs.Common.{◌≡◌, take}
use Rattle.verse_value.specs.View.{vals_of}
use Rattle.vm_shot.specs.Cells.{slots_at}
use Rattle.vm_shot.proofs.cells.slots_shot.Given as goal

-- the slots so far
abbrev pub invariant-slots : goal.invariant-slots
invariant-slots g l =
    (g.H.Heap.state l.heap ≡ g.H.Heap.state l.fn.heap)
    × (vals_of l.slots.items ≡ take l.slot (slots_at (g.H.Heap.state l.fn.heap).cells l.cell))
