use Rattle.std.proofs.Common.{length}
use Rattle.task_tree.proofs.Cancelling.{Cancelling}
use Rattle.task_tree.proofs.tree.TaskTree.cancel.Given as goal

abbrev pub invariant-tasks : goal.invariant-tasks
invariant-tasks g l = Cancelling g.V.Visit.leaves l.fn.self l.id l.fn.visit l.next l.self l.visit

abbrev pub decreases-tasks : goal.decreases-tasks
decreases-tasks g l = length l.self
