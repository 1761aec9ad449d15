use Rattle.std.proofs.Common.{ap, ◌∙◌}
use Rattle.verse_tree.specs.View.{tree_of, trees, for_of}
use Rattle.lower_expr.specs.Building.{built}
use Rattle.lower_expr.specs.Locals.{scope_of}
use Rattle.lower_blocks.proofs.Leveled.{turns_by}
use Rattle.lower_blocks.proofs.loops.for_turns.Goals as goal

pub returns-clause-code : goal.returns-clause-code
returns-clause-code g c =
    turns_by c.args.lowering.now.tables.now.program.now (trees (for_of c.args.parts.now).0) _ (for_of c.args.parts.now).1
    (tree_of c.body.result.now)
    (scope_of c.args.scopes.now) _ c.args.around _ c.args.local c.args.mark.place c.in_ok-goes_on.goes_on
    c.args.turns.now.items _ (built c.args.builder.now) _ _ c.enclosed-enclosed.ensures (ap trees c.clauses.ensures)
    c.body.ensures c.in_ok-goes_on.ensures.code c.in_ok-for_value.ensures.code

pub returns-clause-scopes : goal.returns-clause-scopes
returns-clause-scopes g c =
    (c.in_ok-goes_on.ensures.scopes.0, c.in_ok-for_value.ensures.scopes ∙ c.in_ok-goes_on.ensures.scopes.1)
