use Rattle.std.proofs.Common.{◌≡◌, ◌+◌, length}
use Rattle.run_save_machine.proofs.Putting.{SoFar}
use Rattle.run_save_machine.proofs.tasks.put_all.Given as goal

abbrev pub invariant-tasks : goal.invariant-tasks
invariant-tasks l = record {
  so_far : SoFar l.code l.fn.tasks.items l.numbers l.tasks.items l.restored;
  place : l.at ≡ length l.restored.ids.items;
  long : l.at + length l.tasks.items ≡ length l.numbers;
}

abbrev pub decreases-tasks : goal.decreases-tasks
decreases-tasks l = length l.tasks.items
