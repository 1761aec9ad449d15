use Rattle.std.proofs.Common.{◌≡◌, ◌≤◌, length, take}
use Rattle.lower_expr.specs.Building.{built}
use Rattle.lower_fail.specs.Attempts.{all_ended}
use Rattle.lower_fail.proofs.ends.jumps_end.Given as goal

abbrev pub invariant-jumps : goal.invariant-jumps
invariant-jumps l = record {
  within : l.left ≤ length l.jumps;
  ended : all_ended (take l.left l.jumps) (built l.builder) ≡ all_ended l.jumps (built l.fn.builder);
}

abbrev pub decreases-jumps : goal.decreases-jumps
decreases-jumps l = l.left
