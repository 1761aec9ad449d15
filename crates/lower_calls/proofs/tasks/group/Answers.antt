use Rattle.std.proofs.Common.{◌∙◌, map}
use Rattle.verse_tree.specs.View.{tree_of, trees}
use Rattle.lower_expr.specs.Building.{built}
use Rattle.lower_expr.specs.Locals.{scope_of}
use Rattle.lower_calls.proofs.Arms.{group_is}
use Rattle.lower_calls.proofs.tasks.group.Goals as goal

pub returns-clause-code : goal.returns-clause-code
returns-clause-code g c =
    group_is c.args.lowering.now.tables.now.program.now c.args.kind c.args.place (trees (map tree_of c.args.parts.now))
    (scope_of c.args.scopes.now) (built c.args.builder.now) _ _ _ _ _ _ (c.in_ok-count.ensures ∙ c.how_many.ensures)
    c.in_ok-mark.ensures.arm c.in_ok-mark.ensures.jump c.in_ok-mark.ensures.added
    c.in_ok-arms.ensures.code c.in_ok-group_end.ensures
