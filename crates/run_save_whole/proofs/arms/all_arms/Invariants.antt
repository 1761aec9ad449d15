use Rattle.std.proofs.Common.{◌≡◌, drop, map}
use Rattle.run_save_shots.specs.View.{task_of}
use Rattle.run_save_whole.specs.Tallies.{with_arms, all_marks}
use Rattle.run_save_whole.specs.View.{marks_of}
use Rattle.run_save_whole.proofs.arms.all_arms.Given as goal

abbrev pub invariant-tasks : goal.invariant-tasks
invariant-tasks l = with_arms (map marks_of l.all.items) (map task_of (drop l.task-index l.tasks)) ≡ all_marks (map task_of l.tasks)
