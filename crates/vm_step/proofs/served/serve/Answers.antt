use Rattle.vm_step.proofs.Serving.{group_serves}
use Rattle.vm_step.proofs.served.serve.Goals as goal

pub returns-in-Arms : goal.returns-in-Arms
returns-in-Arms g c = rw c.in-Arms.is (group_serves g.W.Waits.pending c.group.result _ c.in-Arms.arms _ _ _ _ c.group_kind.ensures
    c.group.ensures)
