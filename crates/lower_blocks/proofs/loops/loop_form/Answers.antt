use Rattle.verse_tree.specs.View.{tree_of}
use Rattle.lower_expr.specs.Building.{built}
use Rattle.lower_expr.specs.Locals.{scope_of}
use Rattle.lower_blocks.proofs.Formed.{loop_by}
use Rattle.lower_blocks.proofs.loops.loop_form.Goals as goal

pub returns-clause-code : goal.returns-clause-code
returns-clause-code g c =
    loop_by c.args.lowering.now.tables.now.program.now (scope_of c.args.scopes.now) c.args.around
    (tree_of c.args.part.now) _ _ _ (built c.args.builder.now) _ _ _ c.looped.ensures c.in_ok-mark.ensures.begun
    c.in_ok-mark.ensures.exits c.in_ok-mark.ensures.added c.in_ok-part.ensures.code c.in_ok-loop_end.ensures
