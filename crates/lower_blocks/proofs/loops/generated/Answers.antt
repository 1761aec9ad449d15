use Rattle.std.proofs.Common.{length, ap, ◌∙◌}
use Rattle.verse_tree.specs.View.{tree_of}
use Rattle.lower_lookup.specs.Statements.{generator_view}
use Rattle.lower_code.specs.Lowering.{with_generator}
use Rattle.lower_expr.specs.Building.{built}
use Rattle.lower_expr.specs.Locals.{scope_of}
use Rattle.lower_blocks.proofs.Claused.{turns_at_by, turns_begun_by}
use Rattle.lower_blocks.proofs.loops.generated.Goals as goal

pub returns-clause-local : goal.returns-clause-local
returns-clause-local g c = c.in_ok-turn.ensures.local ∙ ap length c.in_ok-inner.ensures.scopes

pub returns-clause-begun : goal.returns-clause-begun
returns-clause-begun g c =
    turns_at_by c.args.lowering.now.tables.now.program.now (tree_of c.args.part.now)
    (scope_of c.args.scopes.now) c.args.around
    (generator_view c.args.generator) _ _ (built c.args.builder.now) _ c.in_ok-inner.ensures.code
    c.in_ok-inner.ensures.scopes c.in_ok-turn.ensures.begun

pub returns-clause-added : goal.returns-clause-added
returns-clause-added g c =
    turns_begun_by c.args.lowering.now.tables.now.program.now (tree_of c.args.part.now)
    (scope_of c.args.scopes.now) c.args.around
    (generator_view c.args.generator) _ (built c.args.builder.now) _ _ c.in_ok-inner.ensures.code
    c.in_ok-inner.ensures.scopes c.in_ok-turn.ensures.added

pub returns-clause-scopes : goal.returns-clause-scopes
returns-clause-scopes g c =
    c.in_ok-turn.ensures.scopes ∙ ap (with_generator (generator_view c.args.generator)) c.in_ok-inner.ensures.scopes
