use Rattle.std.proofs.Common.{arith, ◌-◌}
use Rattle.lower_expr.specs.Building.{built}
use Rattle.lower_fail.proofs.OpenEnds.{ends_next}
use Rattle.lower_fail.proofs.ends.jumps_end.Goals as goal

pub jumps-preserved : goal.jumps-preserved
jumps-preserved c = record {
  within = omega (arith, c.jumps.invariant.within);
  ended = ends_next c.args.jumps.now c.jumps.left (c.jumps.left - 1) _ (built c.jumps.builder) _ _ (omega (arith, c.jumps-test.true))
      (omega (arith, c.jumps-test.true, c.jumps.invariant.within)) c.in_ok-end_here.ensures c.jumps.invariant.ended;
}
