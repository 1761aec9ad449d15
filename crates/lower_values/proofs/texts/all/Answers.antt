use Rattle.std.proofs.Common.{◌∙◌}
use Rattle.lower_expr.specs.Building.{built}
use Rattle.lower_expr.specs.Locals.{scope_of}
use Rattle.lower_values.proofs.Holes.{holes_next, holes_done, parts_next, parts_done}
use Rattle.lower_values.proofs.texts.all.Goals as goal

pub parts-preserved : goal.parts-preserved
parts-preserved g c =
    let p = c.args.lowering.now.tables.now.program.now in (
      c.in_ok-hole.ensures.scopes ∙ c.parts.invariant.0,
      holes_next p c.args.parts.now c.parts.part-index (scope_of c.args.scopes.now) c.part-item.result
          (scope_of c.parts.scopes)
          c.parts.here
          _ (built c.parts.builder) (built c.hole.new.builder) _ c.parts-test.true c.part-item.is c.parts.invariant.0
          c.in_ok-hole.ensures.code
          (search (
            c.in_ok-here.ensures,
            c.is_text-next.ensures,
            c.behind.ensures,
            c.in_ok-up.ensures,
          )) c.parts.invariant.1,
      parts_next p c.args.parts.now c.parts.part-index (scope_of c.args.scopes.now) c.part-item.result c.parts.count _
          _ c.parts-test.true
          c.part-item.is
          (search (
            c.in_ok-count.ensures,
            c.is_text-next.ensures,
            c.behind.ensures,
            c.in_ok-further.ensures,
          )) c.parts.invariant.2,
    )

pub returns-clause-code : goal.returns-clause-code
returns-clause-code g c =
    holes_done c.args.lowering.now.tables.now.program.now c.args.parts.now c.parts.part-index
    (scope_of c.args.scopes.now) c.parts.here
    (built c.parts.builder) _ c.parts-test.false c.parts.invariant.1

pub returns-clause-count : goal.returns-clause-count
returns-clause-count g c =
    parts_done c.args.lowering.now.tables.now.program.now c.args.parts.now c.parts.part-index
    (scope_of c.args.scopes.now) c.parts.count _
    c.parts-test.false c.parts.invariant.2
