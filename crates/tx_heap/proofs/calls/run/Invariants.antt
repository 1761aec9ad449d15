use Rattle.std.proofs.Common.{◌≡◌, drop, take}
use Rattle.tx_heap.specs.Calls.{AllAllowed, after_all}
use Rattle.tx_heap.proofs.calls.run.Given as goal

abbrev pub invariant-calls : goal.invariant-calls
invariant-calls g l =
    let state = g.H.Heap.state in
    record {
      allowed : AllAllowed (drop l.call-index l.calls) (state l.heap);
      left : after_all (drop l.call-index l.calls) (state l.heap) ≡ after_all l.calls (state l.fn.heap);
      made : state l.heap ≡ after_all (take l.call-index l.calls) (state l.fn.heap);
    }
