use Rattle.std.proofs.Common.{◌≡◌, ◌≤◌, length, take}
use Rattle.lower_expr.specs.Building.{built}
use Rattle.lower_fail.specs.Attempts.{turns_closed}
use Rattle.lower_fail.proofs.ends.turns_end.Given as goal

abbrev pub invariant-turns : goal.invariant-turns
invariant-turns l = record {
  within : l.left ≤ length l.turns;
  closed : turns_closed (take l.left l.turns) (built l.builder) ≡ turns_closed l.turns (built l.fn.builder);
}

abbrev pub decreases-turns : goal.decreases-turns
decreases-turns l = l.left
