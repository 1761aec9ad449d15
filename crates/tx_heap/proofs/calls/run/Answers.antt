use Rattle.std.proofs.Common.{◌≡◌, ◌<◌, length, get_or, ap, ◌∙◌, rules}
use Rattle.tx_heap.specs.Calls.{after}
use Rattle.tx_heap.specs.declared.calls.Call.{Call}
use Rattle.tx_heap.proofs.Making.{allowed_next, left_next, made_next}
use Rattle.tx_heap.proofs.calls.run.Goals as goal

pub calls-preserved : goal.calls-preserved
calls-preserved g c =
    let state = g.H.Heap.state in
    let calls = c.args.calls.now in
    let i = c.calls.call-index in
    let call = c.call-item.result in
    let now = state c.calls.heap in
    let new = state c.apply.new.heap in
    let within : i < length calls = search rules in
    let made : new ≡ after call now = c.in_ok-apply.ensures.ok in
    let goes : new ≡ after (get_or calls i call) now = made ∙ ap (λ (x : Call). after x now) c.call-item.is in
    record {
      allowed = allowed_next calls i call now new within goes c.calls.invariant.allowed;
      left = left_next calls i call now new within goes ∙ c.calls.invariant.left;
      made = made_next calls i call (state c.args.heap.now) now new within goes c.calls.invariant.made;
    }
