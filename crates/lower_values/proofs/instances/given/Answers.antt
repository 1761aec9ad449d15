use Rattle.verse_tree.specs.View.{given_of}
use Rattle.lower_expr.specs.Building.{built}
use Rattle.lower_expr.specs.Locals.{scope_of}
use Rattle.lower_values.proofs.Ended.{given_by}
use Rattle.lower_values.proofs.instances.given.Goals as goal

pub returns-clause-code : goal.returns-clause-code
returns-clause-code g c =
    given_by c.args.lowering.now.tables.now.program.now (scope_of c.args.scopes.now) c.args.around
    (given_of c.args.part.now).1 _ c.in_ok-local.local _ (built c.args.builder.now) _ _ c.value.ensures c.in_ok-local.ensures
    c.in_ok-part.ensures.scopes c.in_ok-part.ensures.code c.in_ok-put_away.ensures
