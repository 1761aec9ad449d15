use Rattle.std.proofs.Common.{refl}
use Rattle.vm_suspend.proofs.Giving.{gives_so}
use Rattle.vm_suspend.proofs.results.give.Goals as goal

pub returns : goal.returns
returns g c = gives_so g.W.Waits.pending _ _ _ _ _ _ refl c.requires c.put_result.ensures c.wake_task.ensures
