use Rattle.std.proofs.Common.{◌≡◌, ◌-◌, suc, refl, arith}
use Rattle.vm_running.proofs.Steps.{spends_leads, spends_out}
use Rattle.vm_running.proofs.spending.spend.Goals as goal

pub overflow_add-run : goal.overflow_add-run
overflow_add-run g c = let bound = c.requires.ready.clock in omega arith

pub returns-then-run-eq0-clause-out : goal.returns-then-run-eq0-clause-out
returns-then-run-eq0-clause-out g c not_so go = spends_out go _ _ c.requires.ready c.if-run-eq0.true

pub returns-clause-leads : goal.returns-clause-leads
returns-clause-leads g c sure go =
    let next : c.args.run.now.left ≡ suc (c.args.run.now.left - 1) = omega arith in
    spends_leads go _ _ _ _ c.requires.ready next refl
