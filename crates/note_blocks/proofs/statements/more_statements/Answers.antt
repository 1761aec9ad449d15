use Rattle.lower_expr.specs.Locals.{scope_of}
use Rattle.lower_blocks.proofs.Listed.{behind_done, behind_next}
use Rattle.note_stretches.specs.Noted.{noted}
use Rattle.note_blocks.proofs.Listed.{more_next, more_done}
use Rattle.note_blocks.proofs.statements.more_statements.Goals as goal

pub parts-preserved : goal.parts-preserved
parts-preserved g c = (
  behind_next c.args.parts.now c.parts.part-index c.part-item.result (scope_of c.parts.scopes) _
      _ c.parts-test.true c.part-item.is
      c.in_ok-behind.ensures.scopes c.parts.invariant.0,
  more_next c.args.noter.now.tables.now.program.now c.args.parts.now c.parts.part-index c.part-item.result
      (scope_of c.parts.scopes) _
      c.parts.behind _ (noted c.parts.noting) _ _
      _ c.parts-test.true c.part-item.is c.in_ok-drop_values.ensures c.in_ok-behind.ensures.states
      c.in_ok-behind.ensures.scopes c.in_ok-behind.ensures.around c.parts.invariant.1,
)

pub returns-clause-states : goal.returns-clause-states
returns-clause-states g c =
    more_done c.args.noter.now.tables.now.program.now c.args.parts.now c.parts.part-index
    (scope_of c.parts.scopes) c.parts.behind
    (noted c.parts.noting) _ c.parts-test.false c.parts.invariant.1

pub returns-clause-scopes : goal.returns-clause-scopes
returns-clause-scopes g c =
    behind_done c.args.parts.now c.parts.part-index (scope_of c.parts.scopes) _ c.parts-test.false c.parts.invariant.0
