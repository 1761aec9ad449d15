use Rattle.std.proofs.Common.{◌≡◌}
use Rattle.tx_heap.specs.Copies.{state_of}
use Rattle.tx_heap_tests.proofs.comparing.are_alike.Given as goal

abbrev pub invariant-cells : goal.invariant-cells
invariant-cells g l =
    let state = g.H.Heap.state in
    (state l.heap ≡ state l.fn.heap) × (state_of l.copies ≡ state_of l.fn.copies)
