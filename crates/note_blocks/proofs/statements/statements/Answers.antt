use Rattle.lower_expr.specs.Locals.{scope_of}
use Rattle.note_stretches.specs.Noted.{noted}
use Rattle.note_blocks.proofs.Listed.{no_statements, some_statements}
use Rattle.note_blocks.proofs.statements.statements.Goals as goal

pub returns-in_default-clause-states : goal.returns-in_default-clause-states
returns-in_default-clause-states g c =
    no_statements c.args.noter.now.tables.now.program.now (scope_of c.args.scopes.now) c.args.around c.args.parts.now
    (noted c.args.noting.now) _ c.in_default.ensures.cases c.in_ok-push.ensures

pub returns-clause-states : goal.returns-clause-states
returns-clause-states g c =
    some_statements c.args.noter.now.tables.now.program.now (scope_of c.args.scopes.now)
    c.args.around c.args.parts.now
    c.in-Some.rest.now
    c.in-Some.first.now _ _ _ (noted c.args.noting.now) _ _ _ c.in-Some.ensures.cases.0 c.in_ok-behind.ensures.states
    c.in_ok-behind.ensures.scopes c.in_ok-behind.ensures.around c.in_ok-more_statements.ensures.states c.any_defer.ensures
    c.in_ok-leave.ensures
