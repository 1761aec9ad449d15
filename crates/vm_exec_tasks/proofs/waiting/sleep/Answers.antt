use Rattle.std.proofs.Common.{◌≡◌, ◌+◌, [], true, false, refl, sym, ◌∙◌, arith, rules}
use Rattle.vm_exec_tasks.proofs.Asking.{after_next, asks_by, asks_next, held_none, free_leads, free_bare, settled_moved}
use Rattle.vm_exec_tasks.proofs.Waits.{sleeping, sleeping_asks}
use Rattle.vm_exec_tasks.proofs.Leaving.{like_moved, settles}
use Rattle.vm_exec_tasks.proofs.waiting.sleep.Goals as goal

pub returns-then-not-is_free-clause-asks : goal.returns-then-not-is_free-clause-asks
returns-then-not-is_free-clause-asks g c code =
    let not_so : c.is_free.result ≡ false = search rules in
    held_none (after_next (sleeping c.args.duration)) _ _ (λ ms. sym not_so ∙ c.is_free.ensures ms)

pub go_next-requires-clause-free : goal.go_next-requires-clause-free
go_next-requires-clause-free g c =
    let so : c.is_free.result ≡ true = search rules in
    sym (c.is_free.ensures []) ∙ so

pub returns-clause-asks : goal.returns-clause-asks
returns-clause-asks g c code =
    let so : c.is_free.result ≡ true = search rules in
    let later : c.in-Some.moment ≡ c.args.run.now.moment + c.args.duration = search (rules, arith) in
    asks_by (free_leads (after_next (sleeping c.args.duration)) _ c.requires.ready (λ ms. sym so ∙ c.is_free.ensures ms))
    (asks_next (sleeping c.args.duration) _ _ _ _ c.requires.ready.some c.go_next.ensures
    (sleeping_asks c.args.duration _ _ (settled_moved _ _ _ c.requires.ready
    (free_bare _ [] (sym (c.is_free.ensures []) ∙ so)) c.go_next.ensures) later))

pub returns-clause-leaves : goal.returns-clause-leaves
returns-clause-leaves g c =
    let so : c.is_free.result ≡ true = search rules in
    settles _ _ refl (like_moved _ _ _ c.go_next.ensures) (sym (c.is_free.ensures []) ∙ so)
