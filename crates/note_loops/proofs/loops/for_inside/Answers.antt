use Rattle.std.proofs.Common.{refl, ap, ◌∙◌}
use Rattle.verse_tree.specs.View.{tree_of, trees, for_of}
use Rattle.lower_expr.specs.Locals.{scope_of, cut_to}
use Rattle.lower_blocks.proofs.Leveled.{cut_levels}
use Rattle.note_stretches.specs.Noted.{noted}
use Rattle.note_loops.proofs.Leveled.{for_by}
use Rattle.note_loops.proofs.loops.for_inside.Goals as goal

pub returns-clause-states : goal.returns-clause-states
returns-clause-states g c =
    for_by c.args.noter.now.tables.now.program.now (trees (for_of c.args.parts.now).0) _ (for_of c.args.parts.now).1
    (tree_of c.body.result.now)
    (scope_of c.args.scopes.now) _ _ c.args.around _ c.in_ok-goes_on.goes_on c.new-turns.result.items
    c.levels.new.turns.items c.levels.new.turns.items
    (noted c.args.noting.now) _ _ _ c.in_ok-add.ensures c.enclosed-enclosed.ensures
    (ap trees c.clauses.ensures)
    c.body.ensures c.new-turns.ensures.items c.in_ok-goes_on.ensures.states
    c.in_ok-for_value.ensures.states refl c.in_ok-turns_end.ensures

pub returns-clause-scopes : goal.returns-clause-scopes
returns-clause-scopes g c =
    cut_levels c.in_ok-local.local (scope_of c.args.scopes.now) _ _ _ c.in_ok-local.ensures c.in_ok-add.ensures
    c.in_ok-goes_on.ensures.scopes
    (c.cut.ensures ∙ ap (cut_to c.in_ok-local.local) c.in_ok-for_value.ensures.scopes)
