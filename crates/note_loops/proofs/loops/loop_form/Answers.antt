use Rattle.verse_tree.specs.View.{tree_of}
use Rattle.lower_expr.specs.Locals.{scope_of}
use Rattle.note_stretches.specs.Noted.{noted}
use Rattle.note_loops.proofs.Steps.{loop_by}
use Rattle.note_loops.proofs.loops.loop_form.Goals as goal

pub returns-clause-states : goal.returns-clause-states
returns-clause-states g c =
    loop_by c.args.noter.now.tables.now.program.now (scope_of c.args.scopes.now) c.args.around
    (tree_of c.args.part.now) _ _ _ _ (noted c.args.noting.now) _ _ _ c.looped.ensures c.in_ok-mark.ensures.deep
    c.in_ok-mark.ensures.left c.in_ok-mark.ensures.standing c.in_ok-mark.ensures.begun c.in_ok-part.ensures.states
    c.in_ok-loop_end.ensures
