use Rattle.verse_tree.specs.View.{pair_of}
use Rattle.lower_expr.specs.Building.{built}
use Rattle.lower_expr.specs.Locals.{scope_of}
use Rattle.lower_values.proofs.Ended.{pair_by}
use Rattle.lower_values.proofs.maps.pair.Goals as goal

pub returns-clause-code : goal.returns-clause-code
returns-clause-code g c =
    pair_by c.args.lowering.now.tables.now.program.now (scope_of c.args.scopes.now) c.args.around
    (pair_of c.args.parts.now) _ _ _ _ (built c.args.builder.now) _ _ c.key.ensures c.value.ensures c.in_ok-part.ensures.scopes
    c.in_ok-above.ensures c.in_ok-part.ensures.code c.in_ok-part-2.ensures.code
