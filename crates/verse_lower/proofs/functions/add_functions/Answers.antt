use Rattle.std.proofs.Common.{◌∙◌}
use Rattle.lower_expr.specs.Building.{built}
use Rattle.verse_lower.proofs.Bodies.{code_next, functions_next}
use Rattle.verse_lower.proofs.functions.add_functions.Goals as goal

pub bodies-preserved : goal.bodies-preserved
bodies-preserved c =
    let p = c.args.tables.now.program.now in (
      code_next p c.args.bodies.now c.bodies.body-index c.body-item.result (built c.bodies.builder)
          (built c.add_function.new.builder) _
          c.bodies-test.true c.body-item.is c.in_ok-add_function.ensures.code c.bodies.invariant.0,
      rw c.in_ok-push.ensures.ok
          (functions_next p c.args.bodies.now c.bodies.body-index c.body-item.result c.bodies.functions _
          c.in_ok-add_function.field-0
          (built c.bodies.builder)
          (built c.add_function.new.builder) c.bodies-test.true c.body-item.is c.in_ok-add_function.ensures.code
          c.in_ok-add_function.ensures.function c.bodies.invariant.1),
    )
