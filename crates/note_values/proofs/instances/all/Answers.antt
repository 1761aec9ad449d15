use Rattle.lower_expr.specs.Locals.{scope_of}
use Rattle.lower_parts.proofs.Facts.{grown_more}
use Rattle.note_stretches.specs.Noted.{noted}
use Rattle.note_values.proofs.Fields.{givens_next, givens_done}
use Rattle.note_values.proofs.instances.all.Goals as goal

pub parts-preserved : goal.parts-preserved
parts-preserved g c = (
  grown_more (scope_of c.args.scopes.now) (scope_of c.parts.scopes) (scope_of c.given.new.scopes) c.parts.invariant.0
      c.in_ok-given.ensures.scopes,
  givens_next c.args.noter.now.tables.now.program.now c.args.parts.now c.parts.part-index
      c.args.around c.part-item.result
      (scope_of c.parts.scopes) (scope_of c.given.new.scopes) (noted c.parts.noting) (noted c.given.new.noting)
      _ c.parts-test.true c.part-item.is
      c.in_ok-given.ensures.scopes c.in_ok-given.ensures.states c.parts.invariant.1,
)

pub returns-clause-states : goal.returns-clause-states
returns-clause-states g c =
    givens_done c.args.noter.now.tables.now.program.now c.args.parts.now c.parts.part-index c.args.around
    (scope_of c.parts.scopes) (noted c.parts.noting) _ c.parts-test.false c.parts.invariant.1

pub returns-clause-scopes : goal.returns-clause-scopes
returns-clause-scopes g c = c.parts.invariant.0
