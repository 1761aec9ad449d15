use Rattle.lower_expr.specs.Building.{built}
use Rattle.lower_expr.specs.Locals.{scope_of}
use Rattle.lower_values.proofs.Fields.{givens_next, givens_done}
use Rattle.std.proofs.Common.{refl}
use Rattle.lower_parts.proofs.Facts.{grown_more}
use Rattle.lower_values.proofs.instances.all.Goals as goal

pub parts-preserved : goal.parts-preserved
parts-preserved g c = (
  grown_more (scope_of c.args.scopes.now) (scope_of c.parts.scopes) (scope_of c.given.new.scopes) c.parts.invariant.0
      c.in_ok-given.ensures.scopes,
  givens_next c.args.lowering.now.tables.now.program.now c.args.parts.now c.parts.part-index
      c.args.around c.part-item.result
      (scope_of c.parts.scopes) (scope_of c.given.new.scopes) (built c.parts.builder) (built c.given.new.builder)
      _ c.parts-test.true
      c.part-item.is
      c.in_ok-given.ensures.scopes c.in_ok-given.ensures.code c.parts.invariant.1,
)

pub returns-clause-code : goal.returns-clause-code
returns-clause-code g c =
    givens_done c.args.lowering.now.tables.now.program.now c.args.parts.now c.parts.part-index c.args.around
    (scope_of c.parts.scopes)
    (built c.parts.builder) _ c.parts-test.false c.parts.invariant.1

pub returns-clause-scopes : goal.returns-clause-scopes
returns-clause-scopes g c = c.parts.invariant.0
