use Rattle.vm_tasks_laws.specs.Laws.{itself}
use Rattle.vm_tasks_laws.proofs.Overs.{cancels_arms}
use Rattle.vm_tasks_laws.proofs.arms_cancel.Goals as goal

pub returns : goal.returns
returns c = λ tasks gone new ids i w gs o bound s t h c. cancels_arms itself tasks gone new ids i w gs o bound s t h c
