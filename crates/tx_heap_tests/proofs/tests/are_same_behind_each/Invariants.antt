use Rattle.std.proofs.Common.{◌≡◌}
use Rattle.tx_heap.specs.Copies.{state_of}
use Rattle.tx_heap_tests.proofs.tests.are_same_behind_each.Given as goal

abbrev pub invariant-calls : goal.invariant-calls
invariant-calls g l = g.H.Heap.state l.heap ≡ state_of l.copies
