use Rattle.std.proofs.Common.{◌≡◌, ◌≤◌, ◌++◌, length, take, drop}
use Rattle.run_save_numbers.specs.Marking.{carry, lifted}
use Rattle.run_save_numbers.proofs.settling.lift.Given as goal

abbrev pub invariant-frames : goal.invariant-frames
invariant-frames l = record {
  within : l.at ≤ length l.fn.borns;
  above : l.carry ≡ carry l.above (drop l.at l.fn.borns);
  so_far : l.borns ≡ take l.at l.fn.borns ++ lifted l.above (drop l.at l.fn.borns);
}

abbrev pub decreases-frames : goal.decreases-frames
decreases-frames l = l.at
