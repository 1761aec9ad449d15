use Rattle.vm_tasks_laws.specs.Laws.{itself}
use Rattle.vm_tasks_laws.proofs.Overs.{cancels_since}
use Rattle.vm_tasks_laws.proofs.scopes_cancel.Goals as goal

pub returns : goal.returns
returns c = λ tasks gone new ids i w arms o bound s c. cancels_since itself tasks gone new ids i w arms o bound s c
