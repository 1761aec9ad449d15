use Rattle.std.proofs.Common.{◌∙◌}
use Rattle.lower_expr.specs.Locals.{scope_of}
use Rattle.note_stretches.specs.Noted.{noted}
use Rattle.note_parts.proofs.Operands.{operands_next, operands_done}
use Rattle.note_parts.proofs.noter.Noter.operands.Goals as goal

pub parts-preserved : goal.parts-preserved
parts-preserved g c = (
  c.in_ok-part.ensures.scopes ∙ c.parts.invariant.0,
  operands_next c.args.self.now.tables.now.program.now c.args.parts.now c.parts.part-index c.part-item.result
      (scope_of c.args.scopes.now)
      (scope_of c.parts.scopes) c.parts.above c.in_ok-above.above (noted c.parts.noting) (noted c.part.new.noting)
      _ c.parts-test.true
      c.part-item.is c.parts.invariant.0 c.in_ok-part.ensures.states c.in_ok-above.ensures c.parts.invariant.1,
)

pub returns-clause-states : goal.returns-clause-states
returns-clause-states g c =
    operands_done c.args.self.now.tables.now.program.now c.args.parts.now c.parts.part-index
    (scope_of c.args.scopes.now) c.parts.above
    (noted c.parts.noting) _ c.parts-test.false c.parts.invariant.1
