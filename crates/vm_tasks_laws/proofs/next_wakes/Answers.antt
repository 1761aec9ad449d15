use Rattle.vm_tasks_laws.specs.Laws.{itself}
use Rattle.vm_tasks_laws.proofs.Wakings.{wakes}
use Rattle.vm_tasks_laws.proofs.next_wakes.Goals as goal

pub returns : goal.returns
returns c = λ tasks tss ps s d e u r t w n. wakes itself tasks tss ps s d e u r t w n
