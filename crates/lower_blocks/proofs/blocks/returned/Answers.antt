use Rattle.verse_tree.specs.View.{tree_of}
use Rattle.lower_expr.specs.Building.{built}
use Rattle.lower_expr.specs.Locals.{scope_of}
use Rattle.lower_blocks.proofs.Formed.{returned_by}
use Rattle.lower_blocks.proofs.blocks.returned.Goals as goal

pub returns-clause-code : goal.returns-clause-code
returns-clause-code g c =
    returned_by c.args.lowering.now.tables.now.program.now (scope_of c.args.scopes.now) c.args.around
    (tree_of c.args.value.now) (built c.args.builder.now) _ _ c.in_ok-part.ensures.code c.in_ok-returning.ensures
