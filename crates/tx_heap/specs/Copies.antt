-- What a heap that keeps copies stands for.
use Rattle.std.specs.Prelude.{ℕ, List, map, reverse}
use Rattle.verse_cells.specs.View.{cells_of}
use Rattle.tx_heap.specs.State.{State}
use Rattle.tx_heap.specs.declared.copy_heap.CopyHeap.{CopyHeap}

abbrev pub state_of : CopyHeap → State
state_of h = record { cells = cells_of h.cells; copies = map cells_of (reverse h.marks.items) }

-- to undo by a copy accesses no cells
abbrev pub dues_of : CopyHeap → List ℕ
dues_of h = map (λ m. 0) (reverse h.marks.items)
