use Rattle.verse_tree.specs.View.{hole_of}
use Rattle.lower_expr.specs.Building.{built}
use Rattle.lower_expr.specs.Locals.{scope_of}
use Rattle.lower_values.proofs.Ended.{hole_by}
use Rattle.lower_values.proofs.texts.hole.Goals as goal

pub returns-clause-code : goal.returns-clause-code
returns-clause-code g c =
    hole_by c.args.lowering.now.tables.now.program.now (scope_of c.args.scopes.now) c.args.around
    (hole_of c.args.hole.now) _ _ (built c.args.builder.now) _ _ c.value.ensures c.behind.ensures c.in_ok-part.ensures.code
    c.in_ok-text_if.ensures
