use Rattle.verse_tree.specs.View.{trees, for_of}
use Rattle.lower_expr.specs.Building.{built}
use Rattle.lower_expr.specs.Locals.{scope_of}
use Rattle.lower_blocks.proofs.Leveled.{cut_levels, for_by}
use Rattle.lower_blocks.proofs.loops.for_inside.Goals as goal

pub returns-clause-code : goal.returns-clause-code
returns-clause-code g c =
    for_by c.args.lowering.now.tables.now.program.now (trees (for_of c.args.parts.now).0) (for_of c.args.parts.now).1
    (scope_of c.args.scopes.now) _ c.args.around c.in_ok-local.local c.args.mark.place _ _ _
    (built c.args.builder.now) _ _ c.in_ok-local.ensures c.in_ok-add.ensures c.new-turns.ensures.items
    c.in_ok-for_turns.ensures.code c.deref.ensures.value c.in_ok-turns_end.ensures

pub returns-clause-scopes : goal.returns-clause-scopes
returns-clause-scopes g c =
    cut_levels c.in_ok-local.local (scope_of c.args.scopes.now) _ _ _ c.in_ok-local.ensures c.in_ok-add.ensures
    c.in_ok-for_turns.ensures.scopes c.cut.ensures
