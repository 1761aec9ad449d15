use Rattle.task_tree.specs.Nested.{IsTree}
use Rattle.vm_shot_tasks.proofs.Standing.{Walk, left_from}
use Rattle.vm_shot_tasks.proofs.places.places_in.Given as goal

-- the tasks so far
abbrev pub invariant-tasks : goal.invariant-tasks
invariant-tasks l = Walk l.tree l.next l.places

abbrev pub decreases-tasks : goal.decreases-tasks
decreases-tasks l = left_from l.next l.tree
