use Rattle.lower_expr.specs.Building.{built}
use Rattle.lower_expr.specs.Locals.{scope_of}
use Rattle.lower_blocks.proofs.Listed.{no_statements, some_statements}
use Rattle.lower_blocks.proofs.statements.statements.Goals as goal

pub returns-in_default-clause-code : goal.returns-in_default-clause-code
returns-in_default-clause-code g c =
    no_statements c.args.lowering.now.tables.now.program.now (scope_of c.args.scopes.now) c.args.around c.args.parts.now
    (built c.args.builder.now) _ c.in_default.ensures.cases c.in_ok-op.ensures

pub returns-clause-code : goal.returns-clause-code
returns-clause-code g c =
    some_statements c.args.lowering.now.tables.now.program.now (scope_of c.args.scopes.now)
    c.args.around c.args.parts.now
    c.in-Some.rest.now
    c.in-Some.first.now _ _ _ (built c.args.builder.now) _ _ _ c.in-Some.ensures.cases.0 c.in_ok-behind.ensures.code
    c.in_ok-behind.ensures.scopes c.in_ok-behind.ensures.around c.in_ok-more_statements.ensures.code c.any_defer.ensures
    c.in_ok-leave.ensures
