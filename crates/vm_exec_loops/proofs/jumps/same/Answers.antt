use Rattle.std.proofs.Common.{◌≡◌, true, false, rules}
use Rattle.vm_running.proofs.Steps.{comes_by, two_leads}
use Rattle.vm_exec_loops.proofs.Jumping.{compares, equal_leads, unequal_leads, false_apart}
use Rattle.vm_exec_loops.proofs.jumps.same.Goals as goal

pub returns-then-equal : goal.returns-then-equal
returns-then-equal g c code =
    let so : c.equal.result ≡ true = search rules in
    let popped = two_leads (compares c.args.label) _ _ _ _ c.requires.ready c.in-Some.ensures.some in
    comes_by popped (comes_by (equal_leads c.args.label _ _ _ popped.ready (c.equal.ensures.0 so)) c.go_on.ensures)

pub returns : goal.returns
returns g c code =
    let not_so : c.equal.result ≡ false = search rules in
    let popped = two_leads (compares c.args.label) _ _ _ _ c.requires.ready c.in-Some.ensures.some in
    comes_by popped (comes_by (unequal_leads c.args.label _ _ _ popped.ready (false_apart c.equal.result _ _ not_so c.equal.ensures.1))
    c.go.ensures)
