use Rattle.std.proofs.Common.{◌≡◌, ◌++◌, drop, map}
use Rattle.run_save_shots.specs.View.{task_of}
use Rattle.run_save_whole.specs.Tallies.{no_marks}
use Rattle.run_save_whole.specs.View.{marks_of}
use Rattle.run_save_whole.proofs.arms.unmarked.Given as goal

abbrev pub invariant-tasks : goal.invariant-tasks
invariant-tasks l = map marks_of l.all.items ++ map no_marks (map task_of (drop l.task-index l.tasks)) ≡
    map no_marks (map task_of l.tasks)
