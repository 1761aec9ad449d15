use Rattle.std.proofs.Common.{◌≡◌, drop, map, replicate}
use Rattle.run_save_shots.specs.View.{task_of}
use Rattle.run_save_whole.specs.Tallies.{with_roots}
use Rattle.run_save_whole.proofs.roots.roots.Given as goal

abbrev pub invariant-tasks : goal.invariant-tasks
invariant-tasks l = with_roots l.counts.items (map task_of (drop l.task-index l.tasks)) ≡
    with_roots (replicate l.entries 0) (map task_of l.tasks)
