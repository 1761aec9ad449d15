use Rattle.std.proofs.Common.{map}
use Rattle.verse_tree.specs.View.{tree_of, trees}
use Rattle.lower_expr.specs.Building.{built}
use Rattle.lower_expr.specs.Locals.{scope_of}
use Rattle.lower_blocks.proofs.Formed.{option_by}
use Rattle.lower_blocks.proofs.failing.option.Goals as goal

pub returns-clause-code : goal.returns-clause-code
returns-clause-code g c =
    option_by c.args.lowering.now.tables.now.program.now (scope_of c.args.scopes.now) c.args.around
    (trees (map tree_of c.args.parts.now)) c.args.place _ _ (built c.args.builder.now) _ _ _ c.enclosed.ensures
    c.in_ok-begun.ensures.begun c.in_ok-begun.ensures.added c.in_ok-own_statements.ensures.code
    c.in_ok-option_end.ensures
