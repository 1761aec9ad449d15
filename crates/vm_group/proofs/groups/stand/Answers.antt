use Rattle.vm_group.proofs.Settling.{hand_live}
use Rattle.vm_group.proofs.Standing.{stands_so}
use Rattle.vm_group.proofs.groups.stand.Goals as goal

pub set_down-requires : goal.set_down-requires
set_down-requires g c = hand_live g.W.Waits.pending _ _ _ c.is_nested.ensures c.requires

pub returns-clause-stands : goal.returns-clause-stands
returns-clause-stands g c = stands_so g.W.Waits.pending c.args.begins _ _ _ c.is_nested.ensures c.set_down.ensures.put
    c.set_down.ensures.down
