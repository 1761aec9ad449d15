use Rattle.verse_tree.specs.View.{two_of}
use Rattle.lower_expr.specs.Locals.{scope_of}
use Rattle.note_stretches.specs.Noted.{noted}
use Rattle.note_failing.proofs.Steps.{and_by}
use Rattle.note_failing.proofs.failing.and.Goals as goal

pub returns-clause-states : goal.returns-clause-states
returns-clause-states g c =
    and_by c.args.noter.now.tables.now.program.now (scope_of c.args.scopes.now) c.args.around
    (two_of c.args.two.now).0 (two_of c.args.two.now).1 _ _ _ (noted c.args.noting.now) _ _ _ c.left.ensures c.right.ensures
    c.in_ok-part.ensures.scopes c.in_ok-part.ensures.states c.in_ok-drop_values.ensures c.in_ok-part-2.ensures.states
