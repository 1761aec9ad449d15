use Rattle.vm_group.proofs.Settling.{ended_first}
use Rattle.vm_group.proofs.groups.arm_ended.Goals as goal

pub returns-in-Race : goal.returns-in-Race
returns-in-Race g c = ended_first g.W.Waits.pending c.settle.result c.args.begins _ _ _ _ c.in-Race.is c.settle.ensures.settles
