use Rattle.std.proofs.Common.{◌≡◌, ◌++◌, drop, map}
use Rattle.run_save_shots.specs.View.{task_of}
use Rattle.run_save_numbers.specs.Marking.{no_marks}
use Rattle.run_save_numbers.specs.View.{numbers_of}
use Rattle.run_save_numbers.proofs.marks.unmarked.Given as goal

abbrev pub invariant-tasks : goal.invariant-tasks
invariant-tasks l = map numbers_of l.all.items ++ map (no_marks l.left) (map task_of (drop l.task-index l.tasks)) ≡
    map (no_marks l.left) (map task_of l.tasks)
