use Rattle.std.proofs.Common.{◌≡◌, true, false, rules}
use Rattle.vm_running.specs.Doings.{goes_on, putting}
use Rattle.vm_running.proofs.Steps.{comes_by, pop_leads, put_leads, put_none}
use Rattle.vm_exec_values.proofs.moves.put.Goals as goal

pub returns-then-not-has_local : goal.returns-then-not-has_local
returns-then-not-has_local g c code =
    let not_so : c.has_local.result ≡ false = search rules in
    comes_by (pop_leads (λ v. putting c.args.local v goes_on) _ _ _ c.requires.ready c.in-Some.ensures.some)
    (put_none goes_on _ _ _ _ (c.has_local.ensures.absent not_so))

pub returns : goal.returns
returns g c code =
    let so : c.has_local.result ≡ true = search rules in
    let popped = pop_leads (λ v. putting c.args.local v goes_on) _ _ _ c.requires.ready c.in-Some.ensures.some in
    comes_by popped (comes_by (put_leads goes_on _ _ _ _ popped.ready (c.has_local.ensures.there so) c.put_local.ensures.new)
    c.go_on.ensures)
