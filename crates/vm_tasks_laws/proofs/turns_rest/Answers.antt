use Rattle.vm_tasks_laws.specs.Laws.{itself}
use Rattle.vm_tasks_laws.proofs.Overs.{turn_over}
use Rattle.vm_tasks_laws.proofs.turns_rest.Goals as goal

pub returns : goal.returns
returns c = λ tasks ids xs ys trees s. turn_over itself tasks ids xs ys trees s
