use Rattle.verse_tree.specs.View.{tree_of, two_of}
use Rattle.lower_expr.specs.Building.{built}
use Rattle.lower_expr.specs.Locals.{scope_of}
use Rattle.lower_blocks.proofs.Arming.{last_arm, untested_arm, tested_arm}
use Rattle.lower_blocks.proofs.cases.whole_arm.Goals as goal

pub returns-in_ok-part-clause-code : goal.returns-in_ok-part-clause-code
returns-in_ok-part-clause-code g c =
    last_arm c.args.lowering.now.tables.now.program.now (two_of c.args.two.now) c.args.local
    (scope_of c.args.scopes.now) c.args.around
    c.args.last (tree_of c.right.result.now) c.args.jumps.now.items (built c.args.builder.now)
    _ c.if-last.true c.right.ensures
    c.in_ok-part.ensures.code

pub returns-in_ok-push-clause-code : goal.returns-in_ok-push-clause-code
returns-in_ok-push-clause-code g c =
    untested_arm c.args.lowering.now.tables.now.program.now (two_of c.args.two.now) c.args.local
    (scope_of c.args.scopes.now)
    c.args.around
    c.args.last c.is_any.result (tree_of c.left.result.now) (tree_of c.right-then-is_any.result.now) c.in_ok-jump.jump
    c.args.jumps.now.items _ (built c.args.builder.now) _ c.if-last.false
    c.is_any.ensures c.if-is_any.true c.left.ensures
    c.right-then-is_any.ensures c.in_ok-jump.ensures.jump c.in_ok-jump.ensures.code c.in_ok-push.ensures.items

pub returns-in_ok-push-2-clause-code : goal.returns-in_ok-push-2-clause-code
returns-in_ok-push-2-clause-code g c =
    tested_arm c.args.lowering.now.tables.now.program.now (two_of c.args.two.now) c.args.local
    (scope_of c.args.scopes.now) c.args.around
    c.args.last c.is_any.result (tree_of c.left.result.now) c.in_ok-jump-2.jump c.args.jumps.now.items _
    (built c.args.builder.now) _
    c.if-last.false c.is_any.ensures c.if-is_any.false
    c.left.ensures c.in_ok-jump-2.ensures.jump c.in_ok-jump-2.ensures.code
    c.in_ok-push-2.ensures.items
