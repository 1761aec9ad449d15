use Rattle.std.proofs.Common.{map}
use Rattle.verse_tree.specs.View.{tree_of, trees}
use Rattle.lower_expr.specs.Building.{built}
use Rattle.lower_expr.specs.Locals.{scope_of}
use Rattle.lower_blocks.proofs.Formed.{logic_by}
use Rattle.lower_blocks.proofs.failing.logic.Goals as goal

pub returns-clause-code : goal.returns-clause-code
returns-clause-code g c =
    logic_by c.args.lowering.now.tables.now.program.now (scope_of c.args.scopes.now) c.args.around
    (trees (map tree_of c.args.parts.now)) _ _ (built c.args.builder.now) _ _ _ c.enclosed.ensures
    c.in_ok-begun.ensures.begun c.in_ok-begun.ensures.added c.in_ok-own_statements.ensures.code
    c.in_ok-logic_end.ensures
