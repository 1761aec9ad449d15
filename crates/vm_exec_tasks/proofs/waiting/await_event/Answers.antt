use Rattle.std.proofs.Common.{◌≡◌, [], true, false, sym, ◌∙◌, rules}
use Rattle.vm_exec_tasks.proofs.Asking.{after_next, asks_by, asks_nothing, asks_next, held_none, free_leads, free_bare, settled_moved}
use Rattle.vm_exec_tasks.proofs.Asking.{asks_same, ready_same, popped_free}
use Rattle.vm_exec_tasks.proofs.Waits.{hearing, with_event, hearing_asks, event_leads, event_stuck}
use Rattle.vm_running.proofs.Steps.{pop_leads, pop_none}
use Rattle.vm_running.specs.Doings.{popping}
use Rattle.verse_value.specs.View.{val_of}
use Rattle.vm_exec_tasks.proofs.Leaving.{like_by, like_popped, like_moved, settles, still_by}
use Rattle.vm_exec_tasks.proofs.waiting.await_event.Goals as goal

pub returns-then-not-is_free-clause-asks : goal.returns-then-not-is_free-clause-asks
returns-then-not-is_free-clause-asks g c code =
    let not_so : c.is_free.result ≡ false = search rules in
    held_none (popping (λ v. with_event v (λ event. after_next (hearing event)))) _ _ (λ ms. sym not_so ∙ c.is_free.ensures ms)

pub returns-in_default-clause-asks : goal.returns-in_default-clause-asks
returns-in_default-clause-asks g c code =
    let so : c.is_free.result ≡ true = search rules in
    asks_by (free_leads (popping (λ v. with_event v (λ event. after_next (hearing event)))) _ c.requires.ready
    (λ ms. sym so ∙ c.is_free.ensures ms)) (asks_nothing _
    (pop_none (λ v. with_event v (λ event. after_next (hearing event))) _ _ c.in_default.ensures.none))

pub returns-in_default-event_of-clause-asks : goal.returns-in_default-event_of-clause-asks
returns-in_default-event_of-clause-asks g c code =
    let so : c.is_free.result ≡ true = search rules in
    let popped = pop_leads (λ v. with_event v (λ event. after_next (hearing event))) _ _ _ c.requires.ready c.in-Some.ensures.some in
    asks_by (free_leads (popping (λ v. with_event v (λ event. after_next (hearing event)))) _ c.requires.ready
    (λ ms. sym so ∙ c.is_free.ensures ms)) (asks_by popped
    (event_stuck (val_of c.in-Some.value) (λ event. after_next (hearing event)) _ _ popped.ready c.event_of.ensures.same
    (λ t e. sym c.in_default-event_of.is ∙ c.event_of.ensures.event t e)))

pub go_next-requires-clause-free : goal.go_next-requires-clause-free
go_next-requires-clause-free g c =
    let so : c.is_free.result ≡ true = search rules in
    popped_free _ _ _ c.in-Some.ensures.some (sym (c.is_free.ensures []) ∙ so)

pub returns-clause-asks : goal.returns-clause-asks
returns-clause-asks g c code =
    let so : c.is_free.result ≡ true = search rules in
    let popped = pop_leads (λ v. with_event v (λ event. after_next (hearing event))) _ _ _ c.requires.ready c.in-Some.ensures.some in
    let named = event_leads (val_of c.in-Some.value) (λ event. after_next (hearing event)) c.in-Some-event_of.event _ popped.ready
    (λ t e. sym c.in-Some-event_of.is ∙ c.event_of.ensures.event t e) in
    asks_by (free_leads (popping (λ v. with_event v (λ event. after_next (hearing event)))) _ c.requires.ready
    (λ ms. sym so ∙ c.is_free.ensures ms)) (asks_by popped
    (asks_by named (asks_same c.event_of.ensures.same
    (asks_next (hearing c.in-Some-event_of.event) _ _ _ _ popped.ready.some c.go_next.ensures
    (hearing_asks _ _ (settled_moved _ _ _ (ready_same popped.ready c.event_of.ensures.same)
    (free_bare _ [] (popped_free _ _ _ c.in-Some.ensures.some (sym (c.is_free.ensures []) ∙ so))) c.go_next.ensures))))))

pub returns-clause-leaves : goal.returns-clause-leaves
returns-clause-leaves g c =
    let so : c.is_free.result ≡ true = search rules in
    settles _ _ (still_by c.event_of.ensures.same) (like_by (like_popped _ _ _ c.in-Some.ensures.some) (like_moved _ _ _ c.go_next.ensures))
    (sym (c.is_free.ensures []) ∙ so)
