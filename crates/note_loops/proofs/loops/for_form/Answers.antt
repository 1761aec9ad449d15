use Rattle.verse_tree.specs.View.{trees, for_of}
use Rattle.lower_expr.specs.Locals.{scope_of}
use Rattle.note_stretches.specs.Noted.{noted}
use Rattle.note_loops.proofs.Leveled.{for_whole}
use Rattle.note_loops.proofs.loops.for_form.Goals as goal

pub returns-clause-states : goal.returns-clause-states
returns-clause-states g c =
    for_whole c.args.noter.now.tables.now.program.now (trees (for_of c.args.parts.now).0)
    (for_of c.args.parts.now).1 c.args.node
    (scope_of c.args.scopes.now) c.args.around c.in_ok-local.local _
    (noted c.args.noting.now) _ _ _ _ _
    _ c.in_ok-local.ensures c.in_ok-push.ensures c.in_ok-put.ensures c.in_ok-before.ensures.before
    c.in_ok-before.ensures.begun c.in_ok-for_inside.ensures.states c.attempt_end.ensures c.in_ok-last.ensures
