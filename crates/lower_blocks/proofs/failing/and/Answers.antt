use Rattle.verse_tree.specs.View.{two_of}
use Rattle.lower_expr.specs.Building.{built}
use Rattle.lower_expr.specs.Locals.{scope_of}
use Rattle.lower_blocks.proofs.Formed.{and_by}
use Rattle.lower_blocks.proofs.failing.and.Goals as goal

pub returns-clause-code : goal.returns-clause-code
returns-clause-code g c =
    and_by c.args.lowering.now.tables.now.program.now (scope_of c.args.scopes.now) c.args.around
    (two_of c.args.two.now).0 (two_of c.args.two.now).1 _ _ _ (built c.args.builder.now) _ _ _ c.left.ensures
    c.right-behind.ensures c.in_ok-part.ensures.scopes c.in_ok-part.ensures.code c.in_ok-and_mid.ensures
    c.in_ok-part-2.ensures.code
