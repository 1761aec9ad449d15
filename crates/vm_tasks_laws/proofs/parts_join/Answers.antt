use Rattle.vm_tasks_laws.specs.Laws.{itself}
use Rattle.vm_tasks_laws.proofs.Endings.{joins}
use Rattle.vm_tasks_laws.proofs.parts_join.Goals as goal

pub returns : goal.returns
returns c = λ tasks ids i w xs ys trees s t u h r. joins itself tasks ids i w xs ys trees s t u h r
