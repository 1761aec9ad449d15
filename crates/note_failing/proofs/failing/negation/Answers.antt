use Rattle.verse_tree.specs.View.{tree_of}
use Rattle.lower_expr.specs.Locals.{scope_of}
use Rattle.note_stretches.specs.Noted.{noted}
use Rattle.note_failing.proofs.Steps.{not_by}
use Rattle.note_failing.proofs.failing.negation.Goals as goal

pub returns-clause-states : goal.returns-clause-states
returns-clause-states g c =
    not_by c.args.noter.now.tables.now.program.now (scope_of c.args.scopes.now) c.args.around
    (tree_of c.args.part.now) _ _ (noted c.args.noting.now) _ _ _ _ _ _ _ c.enclosed.ensures c.in_ok-before.ensures.before
    c.in_ok-before.ensures.begun c.in_ok-part.ensures.states c.in_ok-drop_values.ensures c.in_ok-commit.ensures
    c.in_ok-ends.ensures c.attempt_end.ensures c.in_ok-last.ensures
