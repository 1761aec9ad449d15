use Rattle.std.proofs.Common.{◌≡◌, [], true, false, refl, sym, ◌∙◌, rules}
use Rattle.vm_exec_tasks.proofs.Asking.{after_next, asks_by, asks_nothing, asks_next, held_none, free_leads, free_bare, settled_moved}
use Rattle.vm_exec_tasks.proofs.Asking.{popped_free}
use Rattle.vm_exec_tasks.proofs.Waits.{awaiting, awaiting_asks}
use Rattle.vm_running.proofs.Steps.{pop_leads, pop_none, one_leads, one_none}
use Rattle.vm_running.specs.Doings.{popping, with_one}
use Rattle.verse_meaning_state.specs.Effects.{task_of}
use Rattle.vm_exec_tasks.proofs.Leaving.{like_by, like_popped, like_moved, settles}
use Rattle.vm_exec_tasks.proofs.waiting.await_task.Goals as goal

pub returns-then-not-is_free-clause-asks : goal.returns-then-not-is_free-clause-asks
returns-then-not-is_free-clause-asks g c code =
    let not_so : c.is_free.result ≡ false = search rules in
    held_none (popping (λ v. with_one (task_of v) (λ entry. after_next (awaiting entry)))) _ _ (λ ms. sym not_so ∙ c.is_free.ensures ms)

pub returns-in_default-clause-asks : goal.returns-in_default-clause-asks
returns-in_default-clause-asks g c code =
    let so : c.is_free.result ≡ true = search rules in
    asks_by (free_leads (popping (λ v. with_one (task_of v) (λ entry. after_next (awaiting entry)))) _ c.requires.ready
    (λ ms. sym so ∙ c.is_free.ensures ms)) (asks_nothing _
    (pop_none (λ v. with_one (task_of v) (λ entry. after_next (awaiting entry))) _ _ c.in_default.ensures.none))

pub returns-in_default-task_of-clause-asks : goal.returns-in_default-task_of-clause-asks
returns-in_default-task_of-clause-asks g c code =
    let so : c.is_free.result ≡ true = search rules in
    let popped = pop_leads (λ v. with_one (task_of v) (λ entry. after_next (awaiting entry))) _ _ _ c.requires.ready c.in-Some.ensures.some
    in
    asks_by (free_leads (popping (λ v. with_one (task_of v) (λ entry. after_next (awaiting entry)))) _ c.requires.ready
    (λ ms. sym so ∙ c.is_free.ensures ms)) (asks_by popped
    (asks_nothing _ (one_none (λ entry. after_next (awaiting entry)) _ _ _ (sym c.task_of.ensures ∙ c.in_default-task_of.is))))

pub go_next-requires-clause-free : goal.go_next-requires-clause-free
go_next-requires-clause-free g c =
    let so : c.is_free.result ≡ true = search rules in
    popped_free _ _ _ c.in-Some.ensures.some (sym (c.is_free.ensures []) ∙ so)

pub returns-clause-asks : goal.returns-clause-asks
returns-clause-asks g c code =
    let so : c.is_free.result ≡ true = search rules in
    let popped = pop_leads (λ v. with_one (task_of v) (λ entry. after_next (awaiting entry))) _ _ _ c.requires.ready c.in-Some.ensures.some
    in
    let named = one_leads (λ entry. after_next (awaiting entry)) _ _ _ popped.ready (sym c.task_of.ensures ∙ c.in-Some-task_of.is) in
    asks_by (free_leads (popping (λ v. with_one (task_of v) (λ entry. after_next (awaiting entry)))) _ c.requires.ready
    (λ ms. sym so ∙ c.is_free.ensures ms)) (asks_by popped
    (asks_by named (asks_next (awaiting c.in-Some-task_of.entry) _ _ _ _ popped.ready.some c.go_next.ensures
    (awaiting_asks _ _ (settled_moved _ _ _ popped.ready
    (free_bare _ [] (popped_free _ _ _ c.in-Some.ensures.some (sym (c.is_free.ensures []) ∙ so))) c.go_next.ensures)))))

pub returns-clause-leaves : goal.returns-clause-leaves
returns-clause-leaves g c =
    let so : c.is_free.result ≡ true = search rules in
    settles _ _ refl (like_by (like_popped _ _ _ c.in-Some.ensures.some) (like_moved _ _ _ c.go_next.ensures))
    (sym (c.is_free.ensures []) ∙ so)
