use Rattle.std.proofs.Common.{◌≡◌, ◌≤◌, suc, drop, map}
use Rattle.run_save_shots.specs.View.{task_of}
use Rattle.run_save_whole.specs.Tallies.{all_marks, wrong_task}
use Rattle.run_save_whole.specs.View.{marks_of}
use Rattle.run_save_whole.proofs.tasks.first_wrong.Given as goal

abbrev pub invariant-tasks : goal.invariant-tasks
invariant-tasks l = record {
  arms : map marks_of l.arms ≡ all_marks (map task_of l.tasks);
  frames : l.seen.frames ≤ suc l.spent;
  rest : wrong_task l.code l.spent (map task_of l.tasks) (map marks_of l.arms) l.i l.seen.has_main l.seen.floors.items l.seen.frames
      (map task_of (drop l.i l.tasks)) ≡
      wrong_task l.code l.spent (map task_of l.tasks) (map marks_of l.arms) 0 l.fn.seen.has_main l.fn.seen.floors.items
      l.fn.seen.frames (map task_of l.tasks);
}
