use Rattle.std.proofs.Common.{◌∙◌}
use Rattle.lower_expr.specs.Locals.{scope_of}
use Rattle.note_sorts.specs.Tabled.{found_of}
use Rattle.note_stretches.specs.Noted.{noted}
use Rattle.note_members.proofs.Indexed.{indices_next, indices_done}
use Rattle.note_members.proofs.indices.indices.Goals as goal

pub parts-preserved : goal.parts-preserved
parts-preserved g c =
    let p = c.args.noter.now.tables.now.program.now in (
      c.in_ok-part.ensures.scopes ∙ c.parts.invariant.0,
      indices_next p ((found_of p).sort c.args.of) c.args.args.now c.parts.part-index (scope_of c.args.scopes.now)
          c.part-item.result (scope_of c.parts.scopes) c.number_of.result c.parts.above c.in_ok-above.above (noted c.parts.noting) _
          _ _ c.parts-test.true c.part-item.is c.parts.invariant.0 c.number_of.ensures c.in_ok-part.ensures.states
          c.in_ok-gives.ensures c.in_ok-above.ensures c.parts.invariant.1,
    )

pub returns-clause-states : goal.returns-clause-states
returns-clause-states g c =
    let p = c.args.noter.now.tables.now.program.now in
    indices_done p ((found_of p).sort c.args.of) c.args.args.now c.parts.part-index (scope_of c.args.scopes.now)
    c.parts.above (noted c.parts.noting) _ c.parts-test.false c.parts.invariant.1
