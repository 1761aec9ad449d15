use Rattle.std.proofs.Common.{◌≡◌, ◌≤◌, length, drop, map}
use Rattle.run_save_shots.specs.View.{task_of, shot_of}
use Rattle.run_save_numbers.specs.Marking.{no_marks, with_children}
use Rattle.run_save_numbers.specs.View.{numbers_of}
use Rattle.run_save_numbers.proofs.marks.marks.Given as goal

abbrev pub invariant-tasks : goal.invariant-tasks
invariant-tasks l = record {
  within : l.at ≤ length l.tasks;
  so_far : map numbers_of l.all.items ≡ with_children (shot_of l.shot) (map (no_marks l.shot.left) (map task_of l.tasks))
      (map task_of (drop l.at l.tasks));
}

abbrev pub decreases-tasks : goal.decreases-tasks
decreases-tasks l = l.at
