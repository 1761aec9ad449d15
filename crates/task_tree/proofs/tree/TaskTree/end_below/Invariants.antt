use Rattle.task_tree.specs.Nested.{IsTree}
use Rattle.task_tree.specs.Blocks.{Down, count_behind}
use Rattle.task_tree.proofs.tree.TaskTree.end_below.Given as goal

abbrev pub invariant-down : goal.invariant-down
invariant-down g l = IsTree l.self → Down l.self l.id l.at

abbrev pub decreases-down : goal.decreases-down
decreases-down g l = count_behind l.at l.self
