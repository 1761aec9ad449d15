use Rattle.verse_tree.specs.View.{tree_of}
use Rattle.lower_expr.specs.Building.{built}
use Rattle.lower_expr.specs.Locals.{scope_of}
use Rattle.lower_blocks.proofs.Formed.{constant_by}
use Rattle.lower_blocks.proofs.blocks.constant.Goals as goal

pub returns-clause-code : goal.returns-clause-code
returns-clause-code g c =
    constant_by c.args.lowering.now.tables.now.program.now (scope_of c.args.scopes.now) c.args.around
    (tree_of c.args.value.now) c.in_ok-local.local (built c.args.builder.now) _ _ c.in_ok-local.ensures c.in_ok-part.ensures.code
    c.in_ok-keep.ensures
