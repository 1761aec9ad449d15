use Rattle.vm_tasks_laws.specs.Laws.{itself}
use Rattle.vm_tasks_laws.proofs.Clocks.{next_is, live_is}
use Rattle.vm_tasks_laws.proofs.next_is_least.Goals as goal

pub returns : goal.returns
returns c = λ tasks tss ps s r t. (next_is itself tasks tss ps s r t, live_is itself tasks tss ps s r t)
