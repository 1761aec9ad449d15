use Rattle.std.proofs.Common.{arith, ◌-◌}
use Rattle.lower_expr.specs.Building.{built}
use Rattle.lower_fail.proofs.OpenEnds.{turns_next}
use Rattle.lower_fail.proofs.ends.turns_end.Goals as goal

pub turns-preserved : goal.turns-preserved
turns-preserved c = record {
  within = omega (arith, c.turns.invariant.within);
  closed = turns_next c.args.turns.now c.turns.left (c.turns.left - 1) _ (built c.turns.builder) _ _ (omega (arith, c.turns-test.true))
      (omega (arith, c.turns-test.true, c.turns.invariant.within)) c.in_ok-for_take.ensures c.turns.invariant.closed;
}
