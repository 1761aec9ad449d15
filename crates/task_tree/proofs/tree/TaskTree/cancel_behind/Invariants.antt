use Rattle.task_tree.proofs.Background.{Clearing, to_come}
use Rattle.task_tree.proofs.tree.TaskTree.cancel_behind.Given as goal

abbrev pub invariant-children : goal.invariant-children
invariant-children g l = Clearing g.V.Visit.leaves l.fn.self l.id l.depth l.fn.visit l.next l.self l.visit

abbrev pub decreases-children : goal.decreases-children
decreases-children g l = to_come l.next l.self
