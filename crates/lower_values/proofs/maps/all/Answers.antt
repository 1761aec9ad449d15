use Rattle.std.proofs.Common.{◌∙◌}
use Rattle.lower_expr.specs.Building.{built}
use Rattle.lower_expr.specs.Locals.{scope_of}
use Rattle.lower_values.proofs.Keys.{pairs_next, pairs_done}
use Rattle.lower_values.proofs.maps.all.Goals as goal

pub parts-preserved : goal.parts-preserved
parts-preserved g c = (
  c.in_ok-pair.ensures.scopes ∙ c.parts.invariant.0,
  pairs_next c.args.lowering.now.tables.now.program.now c.args.parts.now c.parts.part-index (scope_of c.args.scopes.now)
      c.part-item.result
      (scope_of c.parts.scopes) c.parts.here _ (built c.parts.builder) (built c.pair.new.builder)
      _ c.parts-test.true c.part-item.is
      c.parts.invariant.0 c.in_ok-pair.ensures.code
      (search (c.in_ok-here.ensures, c.in_ok-above.ensures)) c.parts.invariant.1,
)

pub returns-clause-code : goal.returns-clause-code
returns-clause-code g c =
    pairs_done c.args.lowering.now.tables.now.program.now c.args.parts.now c.parts.part-index
    (scope_of c.args.scopes.now) c.parts.here
    (built c.parts.builder) _ c.parts-test.false c.parts.invariant.1
