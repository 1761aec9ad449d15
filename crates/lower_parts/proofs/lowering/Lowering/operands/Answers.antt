use Rattle.std.proofs.Common.{◌∙◌}
use Rattle.lower_expr.specs.Building.{built}
use Rattle.lower_expr.specs.Locals.{scope_of}
use Rattle.lower_parts.proofs.Operands.{operands_next, operands_done}
use Rattle.lower_parts.proofs.lowering.Lowering.operands.Goals as goal

pub parts-preserved : goal.parts-preserved
parts-preserved g c = (
  c.in_ok-part.ensures.scopes ∙ c.parts.invariant.0,
  operands_next c.args.self.now.tables.now.program.now c.args.parts.now c.parts.part-index c.part-item.result
      (scope_of c.args.scopes.now)
      (scope_of c.parts.scopes) c.parts.above c.in_ok-above.above (built c.parts.builder) (built c.part.new.builder)
      _ c.parts-test.true
      c.part-item.is c.parts.invariant.0 c.in_ok-part.ensures.code c.in_ok-above.ensures c.parts.invariant.1,
)

pub returns-clause-code : goal.returns-clause-code
returns-clause-code g c =
    operands_done c.args.self.now.tables.now.program.now c.args.parts.now c.parts.part-index
    (scope_of c.args.scopes.now) c.parts.above
    (built c.parts.builder) _ c.parts-test.false c.parts.invariant.1
