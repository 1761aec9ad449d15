use Rattle.verse_tree.specs.View.{tree_of}
use Rattle.lower_expr.specs.Building.{built}
use Rattle.lower_expr.specs.Locals.{scope_of}
use Rattle.lower_values.proofs.Ended.{one_by}
use Rattle.lower_values.proofs.operators.one.Goals as goal

pub returns-clause-code : goal.returns-clause-code
returns-clause-code g c =
    one_by c.args.lowering.now.tables.now.program.now (scope_of c.args.scopes.now) c.args.around
    (tree_of c.args.part.now) c.args.ending (built c.args.builder.now) _ _ c.in_ok-part.ensures.code c.in_ok-ending.ensures
