use Rattle.verse_tree.specs.View.{tree_of}
use Rattle.lower_expr.specs.Locals.{scope_of}
use Rattle.note_stretches.specs.Noted.{noted}
use Rattle.note_blocks.proofs.Steps.{defer_by}
use Rattle.note_blocks.proofs.statements.deferred.Goals as goal

pub returns-clause-states : goal.returns-clause-states
returns-clause-states g c =
    defer_by c.args.noter.now.tables.now.program.now (scope_of c.args.scopes.now) c.args.around
    (tree_of c.args.part.now) c.number_of.result _ (noted c.args.noting.now) _ _ _ _ _ _ c.in_ok-behind.ensures.behind
    c.in_ok-behind.ensures.begun c.in_ok-inner.ensures.states c.in_ok-drop_values.ensures c.in_ok-ends.ensures
    c.attempt_end.ensures c.number_of.ensures c.in_ok-push.ensures
