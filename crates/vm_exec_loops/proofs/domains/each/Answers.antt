use Rattle.std.proofs.Common.{◌≡◌, true, false, sym, ◌∙◌, rules}
use Rattle.vm_running.proofs.Steps.{comes_by, pop_leads}
use Rattle.vm_exec_loops.proofs.Jumping.{each_of, each_leads, each_none}
use Rattle.vm_exec_loops.proofs.domains.each.Goals as goal

pub returns-then-not-is_domain : goal.returns-then-not-is_domain
returns-then-not-is_domain g c code =
    let not_so : c.is_domain.result ≡ false = search rules in
    let popped = pop_leads (each_of c.args.local) _ _ _ c.requires.ready c.in-Some.ensures.some in
    comes_by popped (each_none c.args.local _ _ _ (sym c.is_domain.ensures ∙ not_so))

pub returns : goal.returns
returns g c code =
    let so : c.is_domain.result ≡ true = search rules in
    let popped = pop_leads (each_of c.args.local) _ _ _ c.requires.ready c.in-Some.ensures.some in
    comes_by popped (comes_by (each_leads c.args.local _ _ popped.ready (sym c.is_domain.ensures ∙ so)) c.put_both.ensures)
