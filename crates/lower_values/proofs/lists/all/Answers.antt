use Rattle.std.proofs.Common.{map}
use Rattle.verse_tree.specs.View.{tree_of, trees}
use Rattle.lower_expr.specs.Building.{built}
use Rattle.lower_expr.specs.Locals.{scope_of}
use Rattle.lower_values.proofs.Ended.{all_by}
use Rattle.lower_values.proofs.lists.all.Goals as goal

pub returns-clause-code : goal.returns-clause-code
returns-clause-code g c =
    all_by c.args.lowering.now.tables.now.program.now (scope_of c.args.scopes.now) c.args.around
    (trees (map tree_of c.args.parts.now)) c.args.ending (built c.args.builder.now) _ _ c.in_ok-operands.ensures.code
    c.in_ok-ending.ensures
