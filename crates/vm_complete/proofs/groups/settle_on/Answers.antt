use Rattle.vm_complete.proofs.Resting.{settled_idle, settles_on}
use Rattle.vm_complete.proofs.groups.settle_on.Goals as goal

pub rest_on-requires : goal.rest_on-requires
rest_on-requires g c = settled_idle g.W.Waits.pending c.in_ok-went.went c.args.begins _ _ _ _ c.requires c.in_ok-went.ensures.settles

pub returns : goal.returns
returns g c = settles_on g.W.Waits.pending c.rest_on.result c.in_ok-went.went c.args.begins _ _ _ _ _ _ c.in_ok-went.ensures.settles
    c.rest_on.ensures
