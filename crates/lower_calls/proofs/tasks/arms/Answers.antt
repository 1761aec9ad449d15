use Rattle.std.proofs.Common.{◌∙◌}
use Rattle.lower_expr.specs.Building.{built}
use Rattle.lower_expr.specs.Locals.{scope_of}
use Rattle.lower_calls.proofs.Arms.{arms_next, arms_done}
use Rattle.lower_calls.proofs.tasks.arms.Goals as goal

pub parts-preserved : goal.parts-preserved
parts-preserved g c = (
  c.in_ok-at.ensures.scopes ∙ c.parts.invariant.0,
  arms_next c.args.lowering.now.tables.now.program.now c.args.parts.now c.parts.part-index (scope_of c.args.scopes.now)
      c.part-item.result (scope_of c.parts.scopes) c.parts.at c.in_ok-at.at (built c.parts.builder)
      (built c.arm.new.builder) _
      c.parts-test.true c.part-item.is
      c.parts.invariant.0 c.in_ok-at.ensures.next c.in_ok-at.ensures.code c.parts.invariant.1,
)

pub returns-clause-code : goal.returns-clause-code
returns-clause-code g c =
    arms_done c.args.lowering.now.tables.now.program.now c.args.parts.now c.parts.part-index
    (scope_of c.args.scopes.now) c.parts.at
    (built c.parts.builder) _ c.parts-test.false c.parts.invariant.1
