use Rattle.std.proofs.Common.{◌∙◌}
use Rattle.lower_expr.specs.Locals.{scope_of}
use Rattle.note_states.specs.View.{standing_of}
use Rattle.note_stretches.specs.Noted.{noted}
use Rattle.note_tasks.proofs.Arms.{arms_next, arms_done}
use Rattle.note_tasks.proofs.tasks.arms.Goals as goal

pub parts-preserved : goal.parts-preserved
parts-preserved g c = (
  c.in_ok-arm.ensures.scopes ∙ c.parts.invariant.0,
  arms_next c.args.noter.now.tables.now.program.now c.args.parts.now c.parts.part-index (scope_of c.args.scopes.now)
      (standing_of c.args.before.now)
      c.part-item.result (scope_of c.parts.scopes) _ (noted c.parts.noting) _ _
      c.parts-test.true c.part-item.is
      c.parts.invariant.0 c.in_ok-copy.ensures c.in_ok-arm.ensures.states c.parts.invariant.1,
)

pub returns-clause-states : goal.returns-clause-states
returns-clause-states g c =
    arms_done c.args.noter.now.tables.now.program.now c.args.parts.now c.parts.part-index
    (scope_of c.args.scopes.now) (standing_of c.args.before.now)
    (noted c.parts.noting) _ c.parts-test.false c.parts.invariant.1
