-- The lines of the cells so far.
use Rattle.std.proofs.Common.{◌≡◌, ◌≤◌, take}
use Rattle.verse_outside.specs.Held.{with_more}
use Rattle.verse_meaning_state.specs.Texts.{heap_lines}
use Rattle.verse_top_exec.proofs.heap_lines.write_heap.Given as goal

abbrev pub invariant-cells : goal.invariant-cells
invariant-cells g l =
    (g.H.Heap.state l.heap ≡ g.H.Heap.state l.fn.heap)
    × (g.S.Sink.taken l.out ≡ with_more (g.S.Sink.taken l.fn.out) (heap_lines 0 (take l.address (g.H.Heap.state l.fn.heap).cells)))
    × (g.S.Sink.faults l.fn.out ≤ g.S.Sink.faults l.out)
