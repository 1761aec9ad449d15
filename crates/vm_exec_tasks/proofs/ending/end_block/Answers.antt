use Rattle.std.proofs.Common.{Some, true, false, refl, ap, ◌∙◌}
use Rattle.vm_exec_tasks.proofs.Asking.{asks_by, asks_nothing}
use Rattle.vm_exec_tasks.proofs.Ends.{end_none, end_leads, back_to, back_clears}
use Rattle.vm_exec_tasks.proofs.ending.end_block.Goals as goal

pub returns-in_default-clause-asks : goal.returns-in_default-clause-asks
returns-in_default-clause-asks g c code =
    asks_nothing _ (end_none code _ _ c.in_default.ensures.none)

pub returns-then-place-clause-asks : goal.returns-then-place-clause-asks
returns-then-place-clause-asks g c code =
    let lead = end_leads code _ _ _ c.requires.ready c.in-Some.ensures.some in
    asks_by lead (back_clears _ _ lead.ready c.if-place.true)

pub returns-clause-asks : goal.returns-clause-asks
returns-clause-asks g c code =
    let lead = end_leads code _ _ _ c.requires.ready c.in-Some.ensures.some in
    asks_by lead (asks_by (back_to _ _ lead.ready c.if-place.false) (asks_nothing _ c.go.ensures))

pub returns-then-place-clause-leaves : goal.returns-then-place-clause-leaves
returns-then-place-clause-leaves g c =
    record { still = refl; ended = c.in-Some.ensures.some ∙ ap (λ q. Some (q, c.end_defer.new.self)) c.if-place.true }
