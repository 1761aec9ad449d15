use Rattle.std.proofs.Common.{◌∙◌}
use Rattle.lower_expr.specs.Locals.{scope_of}
use Rattle.note_stretches.specs.Noted.{noted}
use Rattle.note_values.proofs.Holes.{holes_next, holes_done}
use Rattle.note_values.proofs.texts.all.Goals as goal

pub parts-preserved : goal.parts-preserved
parts-preserved g c = (
  c.in_ok-hole.ensures.scopes ∙ c.parts.invariant.0,
  holes_next c.args.noter.now.tables.now.program.now c.args.parts.now c.parts.part-index (scope_of c.args.scopes.now) c.part-item.result
      (scope_of c.parts.scopes) c.parts.here
      c.in_ok-here.here (noted c.parts.noting) (noted c.hole.new.noting) _ c.parts-test.true c.part-item.is c.parts.invariant.0
      c.in_ok-hole.ensures.states
      (search (
        c.in_ok-here.ensures,
        c.is_text-next.ensures,
        c.behind.ensures,
        c.in_ok-up.ensures,
      )) c.parts.invariant.1,
)

pub returns-clause-states : goal.returns-clause-states
returns-clause-states g c =
    holes_done c.args.noter.now.tables.now.program.now c.args.parts.now c.parts.part-index
    (scope_of c.args.scopes.now) c.parts.here (noted c.parts.noting) _ c.parts-test.false c.parts.invariant.1
