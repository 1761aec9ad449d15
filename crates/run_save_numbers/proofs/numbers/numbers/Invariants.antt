use Rattle.run_save_shots.specs.View.{shot_of}
use Rattle.run_save_numbers.proofs.Totals.{SoFar}
use Rattle.run_save_numbers.proofs.numbers.numbers.Given as goal

abbrev pub invariant-tasks : goal.invariant-tasks
invariant-tasks l = SoFar (shot_of l.shot) l.all.items l.i
