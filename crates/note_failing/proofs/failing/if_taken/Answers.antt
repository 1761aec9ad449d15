use Rattle.std.proofs.Common.{map, ap}
use Rattle.verse_tree.specs.View.{tree_of, trees, if_of}
use Rattle.lower_expr.specs.Locals.{scope_of}
use Rattle.note_stretches.specs.Noted.{noted}
use Rattle.note_failing.proofs.Ifs.{taken_by}
use Rattle.note_failing.proofs.failing.if_taken.Goals as goal

pub returns-clause-states : goal.returns-clause-states
returns-clause-states g c =
    taken_by c.args.noter.now.tables.now.program.now (scope_of c.args.scopes.now) c.args.around
    (trees (if_of c.args.parts.now).conditions) (trees (map tree_of c.conditions.result.now)) (if_of c.args.parts.now).taken
    (tree_of c.taken.result.now) _ _ (noted c.args.noting.now) _ _ _ _ c.enclosed.ensures (ap trees c.conditions.ensures)
    c.taken.ensures c.in_ok-statements.ensures.scopes c.in_ok-statements.ensures.states c.in_ok-drop_values.ensures
    c.in_ok-commit.ensures c.in_ok-part.ensures.states
