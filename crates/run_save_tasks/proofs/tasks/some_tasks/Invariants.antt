use Rattle.std.proofs.Common.{◌≡◌, ◌-◌, [], map}
use Rattle.run_save_shots.specs.View.{task_of}
use Rattle.run_save_format.specs.Values.{each_at}
use Rattle.run_save_format.specs.Reading.{noted_at, task_at}
use Rattle.run_save_values.proofs.ListSteps.{after_front}
use Rattle.run_save_tasks.specs.View.{known_of}
use Rattle.run_save_tasks.proofs.tasks.some_tasks.Given as goal

abbrev pub invariant-tasks : goal.invariant-tasks
invariant-tasks l =
    after_front (map task_of l.tasks.items) (each_at (noted_at (task_at (known_of l.known))) (l.count - l._i) (l.waits, l.lefts.items)
    l.after) ≡ each_at (noted_at (task_at (known_of l.known))) l.count ([], []) l.bytes
