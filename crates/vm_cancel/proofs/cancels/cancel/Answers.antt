use Rattle.vm_cancel.proofs.Cancelling.{cancels_so}
use Rattle.vm_cancel.proofs.cancels.cancel.Goals as goal

pub returns-clause-ok : goal.returns-clause-ok
returns-clause-ok g c = cancels_so g.W.Waits.pending _ _ _ _ _ _ c.if-tasks.false c.reverse.ensures.items c.cancel_since.ensures.each
    c.cancel_since.ensures.scope c.cancel_since.ensures.arms c.cancel_since.ensures.alone
