-- What is written of the slots and what is left are all.
use Rattle.std.proofs.Common.{◌≡◌, ◌++◌, drop}
use Rattle.verse_meaning_state.specs.Texts.{slots_text}
use Rattle.verse_top_exec.specs.Cells.{cell_at}
use Rattle.verse_top_exec.proofs.heap_lines.push_slots.Given as goal

abbrev pub invariant-slots : goal.invariant-slots
invariant-slots g l =
    (g.H.Heap.state l.heap ≡ g.H.Heap.state l.fn.heap)
    × (l.out.items ++ slots_text (drop l.slot (cell_at (g.H.Heap.state l.fn.heap).cells l.cell).slots) ≡ l.fn.out.items ++
    slots_text (cell_at (g.H.Heap.state l.fn.heap).cells l.cell).slots)
