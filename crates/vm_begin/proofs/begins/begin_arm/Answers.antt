use Rattle.std.proofs.Common.{◌≡◌, ◌-◌, suc, refl, arith}
use Rattle.vm_begin.proofs.Coming.{arm_out, arm_on}
use Rattle.vm_begin.proofs.begins.begin_arm.Goals as goal

pub returns-then-run-eq0 : goal.returns-then-run-eq0
returns-then-run-eq0 g c = arm_out g.W.Waits.pending _ _ _ _ c.if-run-eq0.true

pub returns : goal.returns
returns g c =
    let next : c.args.run.now.left ≡ suc (c.args.run.now.left - 1) = omega arith in
    arm_on g.W.Waits.pending c.args.begins _ _ _ _ _ _ _ _ _ next refl c.in_ok-thread.ensures c.in_ok-id.ensures.begun
    c.in_ok-id.ensures.arm c.in_ok-push.ensures
