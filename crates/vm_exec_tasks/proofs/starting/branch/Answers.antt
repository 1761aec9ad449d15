use Rattle.std.proofs.Common.{◌≡◌, ◌+◌, [], true, false, refl, sym, ap, ◌∙◌, rules}
use Rattle.vm_exec_tasks.proofs.Asking.{asks_by, held_none, free_leads, free_bare, settled_moved}
use Rattle.vm_running.specs.Doings.{spends}
use Rattle.vm_exec_tasks.proofs.Starts.{branched, branch_asks}
use Rattle.vm_exec_tasks.proofs.Leaving.{like_moved, settles}
use Rattle.vm_exec_tasks.proofs.starting.branch.Goals as goal

pub returns-then-not-is_free-clause-asks : goal.returns-then-not-is_free-clause-asks
returns-then-not-is_free-clause-asks g c code =
    let not_so : c.is_free.result ≡ false = search rules in
    held_none (spends (branched c.args.label)) _ _ (λ ms. sym not_so ∙ c.is_free.ensures ms)

pub go_to-requires-clause-free : goal.go_to-requires-clause-free
go_to-requires-clause-free g c =
    let so : c.is_free.result ≡ true = search rules in
    sym (c.is_free.ensures []) ∙ so

pub returns-clause-asks : goal.returns-clause-asks
returns-clause-asks g c code =
    let so : c.is_free.result ≡ true = search rules in
    asks_by (free_leads (spends (branched c.args.label)) _ c.requires.ready (λ ms. sym so ∙ c.is_free.ensures ms))
    (branch_asks c.args.label _ _ _ c.requires.ready (ap (λ k. k + 1) c.place-body.ensures) c.go_to.ensures
    (settled_moved _ _ _ c.requires.ready (free_bare _ [] (sym (c.is_free.ensures []) ∙ so)) c.go_to.ensures))

pub returns-clause-leaves : goal.returns-clause-leaves
returns-clause-leaves g c =
    let so : c.is_free.result ≡ true = search rules in
    settles _ _ refl (like_moved _ _ _ c.go_to.ensures) (sym (c.is_free.ensures []) ∙ so)
