use Rattle.std.proofs.Common.{map}
use Rattle.verse_tree.specs.View.{tree_of, trees}
use Rattle.lower_expr.specs.Building.{built}
use Rattle.lower_expr.specs.Locals.{scope_of}
use Rattle.lower_blocks.specs.Arms.{arms_code}
use Rattle.lower_blocks.proofs.Arming.{arms_ended}
use Rattle.lower_blocks.proofs.cases.all_arms.Goals as goal

pub returns-clause-code : goal.returns-clause-code
returns-clause-code g c =
    arms_ended
    (arms_code c.args.lowering.now.tables.now.program.now (trees (map tree_of c.args.parts.now)) c.args.local
    (scope_of c.args.scopes.now)
    c.args.around)
    _ _ _ (built c.args.builder.now) _ _ c.new-jumps.ensures.items c.in_ok-open_arms.ensures.code c.deref.ensures.value
    c.in_ok-jumps_end.ensures
