use Rattle.verse_tree.specs.View.{tree_of}
use Rattle.lower_expr.specs.Building.{built}
use Rattle.lower_expr.specs.Locals.{scope_of}
use Rattle.lower_blocks.proofs.Stated.{deferred_by}
use Rattle.lower_blocks.proofs.statements.deferred.Goals as goal

pub returns-clause-code : goal.returns-clause-code
returns-clause-code g c =
    deferred_by c.args.lowering.now.tables.now.program.now (tree_of c.args.part.now)
    (scope_of c.args.scopes.now) c.args.around _ (built c.args.builder.now) _ _ _
    c.in_ok-begun.ensures.begun c.in_ok-begun.ensures.added c.in_ok-inner.ensures.code c.in_ok-defer_end.ensures
