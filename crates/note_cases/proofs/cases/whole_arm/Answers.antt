use Rattle.std.proofs.Common.{map, refl}
use Rattle.verse_tree.specs.View.{tree_of, two_of}
use Rattle.lower_expr.specs.Locals.{scope_of}
use Rattle.note_stretches.specs.Noted.{noted}
use Rattle.note_cases.specs.Ends.{end_of}
use Rattle.note_cases.proofs.Arming.{last_arm, untested_arm, tested_arm}
use Rattle.note_cases.proofs.cases.whole_arm.Goals as goal

pub returns-in_ok-part-clause-states : goal.returns-in_ok-part-clause-states
returns-in_ok-part-clause-states g c =
    last_arm c.args.noter.now.tables.now.program.now (two_of c.args.two.now) c.args.local
    (scope_of c.args.scopes.now) c.args.around
    c.args.last (tree_of c.right.result.now) (map end_of c.args.ends.now.items) (noted c.args.noting.now)
    _ c.if-last.true c.right.ensures
    c.in_ok-part.ensures.states

pub returns-in_ok-push-clause-states : goal.returns-in_ok-push-clause-states
returns-in_ok-push-clause-states g c =
    untested_arm c.args.noter.now.tables.now.program.now (two_of c.args.two.now) c.args.local
    (scope_of c.args.scopes.now)
    c.args.around
    c.args.last c.is_any.result (tree_of c.left.result.now) (tree_of c.right-then-is_any.result.now) _
    c.args.ends.now.items _ (noted c.args.noting.now) _ c.if-last.false
    c.is_any.ensures c.if-is_any.true c.left.ensures
    c.right-then-is_any.ensures refl c.in_ok-behind.ensures.behind c.in_ok-behind.ensures.states c.in_ok-push.ensures.items

pub returns-in_ok-push-2-clause-states : goal.returns-in_ok-push-2-clause-states
returns-in_ok-push-2-clause-states g c =
    tested_arm c.args.noter.now.tables.now.program.now (two_of c.args.two.now) c.args.local
    (scope_of c.args.scopes.now) c.args.around
    c.args.last c.is_any.result (tree_of c.left.result.now) _ c.args.ends.now.items _
    (noted c.args.noting.now) _
    c.if-last.false c.is_any.ensures c.if-is_any.false
    c.left.ensures refl c.in_ok-behind-2.ensures.behind c.in_ok-behind-2.ensures.states
    c.in_ok-push-2.ensures.items
