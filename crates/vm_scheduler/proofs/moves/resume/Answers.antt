use Rattle.vm_scheduler.proofs.Running.{resumed_by}
use Rattle.vm_scheduler.proofs.moves.resume.Goals as goal

pub returns : goal.returns
returns g c = resumed_by g.W.Waits.pending _ _ _ _ _ _ c.in_ok-push.ensures.ok
