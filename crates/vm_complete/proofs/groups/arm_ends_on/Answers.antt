use Rattle.vm_complete.proofs.Resting.{ended_idle, arm_ends_on}
use Rattle.vm_complete.proofs.groups.arm_ends_on.Goals as goal

pub rest_on-requires : goal.rest_on-requires
rest_on-requires g c = ended_idle g.W.Waits.pending c.in_ok-went.went c.args.begins _ _ _ _ c.requires c.in_ok-went.ensures

pub returns : goal.returns
returns g c = arm_ends_on g.W.Waits.pending c.rest_on.result c.in_ok-went.went c.args.begins _ _ _ _ _ _ c.in_ok-went.ensures
    c.rest_on.ensures
