use Rattle.vm_suspend.proofs.Above.{hand_of, next_goes}
use Rattle.vm_suspend.proofs.idle.go_arms.Goals as goal

pub next_arm-requires : goal.next_arm-requires
next_arm-requires g c = hand_of g.W.Waits.pending c.args.begins c.push.new.self _ _ c.in_ok-push.ensures.items c.requires

pub returns-clause-goes : goal.returns-clause-goes
returns-clause-goes g c = next_goes g.W.Waits.pending c.next_arm.result c.args.begins c.push.new.self _ _ _ _ c.in_ok-push.ensures.items
    c.next_arm.ensures.next
