use Rattle.std.proofs.Common.{◌≡◌, ◌+◌, [], true, false, sym, ap, ◌∙◌, rules}
use Rattle.vm_exec_tasks.proofs.Asking.{asks_by, asks_nothing, held_none, free_leads, free_bare, asks_same, ready_same, pushed_free}
use Rattle.vm_exec_tasks.proofs.Asking.{settled_pushed, two_free}
use Rattle.vm_exec_tasks.proofs.Waits.{signals, signals_stuck, signal_asks}
use Rattle.vm_running.proofs.Steps.{two_leads, two_none}
use Rattle.vm_running.specs.Doings.{popping_two}
use Rattle.verse_value.specs.View.{val_of}
use Rattle.verse_value.specs.Val.{unit}
use Rattle.tx_heap.specs.State.{State as Kept}
use Rattle.vm_frames.specs.Framed.{place_of}
use Rattle.vm_frames.specs.Calls.{moved}
use Rattle.vm_exec_tasks.proofs.Leaving.{like_by, like_two, like_pushed, like_moved, settles, still_by}
use Rattle.vm_exec_tasks.proofs.waiting.signal.Goals as goal

pub returns-then-not-is_free-clause-asks : goal.returns-then-not-is_free-clause-asks
returns-then-not-is_free-clause-asks g c code =
    let not_so : c.is_free.result ≡ false = search rules in
    held_none (popping_two signals) _ _ (λ ms. sym not_so ∙ c.is_free.ensures ms)

pub returns-in_default-clause-asks : goal.returns-in_default-clause-asks
returns-in_default-clause-asks g c code =
    let so : c.is_free.result ≡ true = search rules in
    asks_by (free_leads (popping_two signals) _ c.requires.ready (λ ms. sym so ∙ c.is_free.ensures ms))
    (asks_nothing _ (two_none signals _ _ c.in_default.ensures.none))

pub returns-in_default-event_of-clause-asks : goal.returns-in_default-event_of-clause-asks
returns-in_default-event_of-clause-asks g c code =
    let so : c.is_free.result ≡ true = search rules in
    let popped = two_leads signals _ _ _ _ c.requires.ready c.in-Some.ensures.some in
    asks_by (free_leads (popping_two signals) _ c.requires.ready (λ ms. sym so ∙ c.is_free.ensures ms))
    (asks_by popped (signals_stuck (val_of c.in-Some.event) (val_of c.in-Some.value) _ _ popped.ready c.event_of.ensures.same
    (λ t e. sym c.in_default-event_of.is ∙ c.event_of.ensures.event t e)))

pub go_next-requires-clause-free : goal.go_next-requires-clause-free
go_next-requires-clause-free g c =
    let so : c.is_free.result ≡ true = search rules in
    pushed_free unit _ _ c.in_ok-push.ensures.ok (two_free _ _ _ _ c.in-Some.ensures.some (sym (c.is_free.ensures []) ∙ so))

pub returns-clause-asks : goal.returns-clause-asks
returns-clause-asks g c code =
    let so : c.is_free.result ≡ true = search rules in
    let popped = two_leads signals _ _ _ _ c.requires.ready c.in-Some.ensures.some in
    let bare = free_bare _ [] (two_free _ _ _ _ c.in-Some.ensures.some (sym (c.is_free.ensures []) ∙ so)) in
    let to = c.go_next.ensures ∙ ap (λ gs. moved (place_of gs + 1) gs) c.in_ok-push.ensures.ok in
    asks_by (free_leads (popping_two signals) _ c.requires.ready (λ ms. sym so ∙ c.is_free.ensures ms))
    (asks_by popped (asks_same c.event_of.ensures.same
    (signal_asks (val_of c.in-Some.event) c.in-Some.value c.in-Some-event_of.event _ _ popped.ready.some bare
    (λ t e. sym c.in-Some-event_of.is ∙ c.event_of.ensures.event t (e ∙ ap (λ (k : Kept). k.cells) c.event_of.ensures.same)) to
    (settled_pushed unit _ _ (ready_same popped.ready c.event_of.ensures.same) bare to))))

pub returns-clause-leaves : goal.returns-clause-leaves
returns-clause-leaves g c =
    let so : c.is_free.result ≡ true = search rules in
    settles _ _ (still_by c.event_of.ensures.same)
    (like_by (like_two _ _ _ _ c.in-Some.ensures.some)
    (like_by (like_pushed unit _ _ c.in_ok-push.ensures.ok) (like_moved _ _ _ c.go_next.ensures))) (sym (c.is_free.ensures []) ∙ so)
