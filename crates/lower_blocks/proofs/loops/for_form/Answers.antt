use Rattle.verse_tree.specs.View.{trees, for_of}
use Rattle.lower_expr.specs.Building.{built}
use Rattle.lower_expr.specs.Locals.{scope_of}
use Rattle.lower_blocks.proofs.Leveled.{for_whole}
use Rattle.lower_blocks.proofs.loops.for_form.Goals as goal

pub returns-clause-code : goal.returns-clause-code
returns-clause-code g c =
    for_whole c.args.lowering.now.tables.now.program.now (trees (for_of c.args.parts.now).0)
    (for_of c.args.parts.now).1 c.args.place
    (scope_of c.args.scopes.now) c.args.around c.in_ok-local.local c.in_ok-mark.mark.place c.in_ok-mark.mark.begun
    (built c.args.builder.now) _
    _ _ c.in_ok-local.ensures c.in_ok-mark.ensures.place c.in_ok-mark.ensures.begun c.in_ok-mark.ensures.added
    c.in_ok-for_inside.ensures.code c.in_ok-for_end.ensures
