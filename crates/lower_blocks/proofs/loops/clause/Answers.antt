use Rattle.std.proofs.Common.{sym, ap, ◌∙◌}
use Rattle.verse_tree.specs.View.{tree_of}
use Rattle.lower_lookup.specs.Statements.{binder_view, generator_view, statement_view}
use Rattle.lower_expr.specs.Building.{built}
use Rattle.lower_expr.specs.Locals.{scope_of}
use Rattle.lower_blocks.proofs.Claused.{plainly_claused, definition_claused, defer_claused, generator_claused}
use Rattle.lower_blocks.proofs.loops.clause.Goals as goal

pub returns-in_ok-op-in-Plain-clause-code : goal.returns-in_ok-op-in-Plain-clause-code
returns-in_ok-op-in-Plain-clause-code g c =
    plainly_claused c.args.lowering.now.tables.now.program.now (tree_of c.args.part.now)
    (scope_of c.args.scopes.now) c.args.around
    c.args.turns.now.items _ (built c.args.builder.now) _ _
    (sym c.statement_of.ensures ∙ ap statement_view c.in-Plain.is)
    c.in_ok-part-in-Plain.ensures.code c.in_ok-part-in-Plain.ensures.scopes c.in_ok-op-in-Plain.ensures

pub returns-in_ok-op-in-Defines-clause-code : goal.returns-in_ok-op-in-Defines-clause-code
returns-in_ok-op-in-Defines-clause-code g c =
    definition_claused c.args.lowering.now.tables.now.program.now (tree_of c.args.part.now)
    (scope_of c.args.scopes.now) c.args.around
    (binder_view c.in-Defines.binder) c.args.turns.now.items _ (built c.args.builder.now) _ _
    (sym c.statement_of.ensures ∙ ap statement_view c.in-Defines.is) c.in_ok-defined-in-Defines.ensures.code
    c.in_ok-defined-in-Defines.ensures.scopes c.in_ok-op-in-Defines.ensures

pub returns-in_ok-stuck-in-Defers-clause-code : goal.returns-in_ok-stuck-in-Defers-clause-code
returns-in_ok-stuck-in-Defers-clause-code g c =
    defer_claused c.args.lowering.now.tables.now.program.now (tree_of c.args.part.now)
    (scope_of c.args.scopes.now) c.args.around
    (tree_of c.in-Defers.field-0.now) c.args.turns.now.items (scope_of c.args.scopes.now) (built c.args.builder.now) _
    (sym c.statement_of.ensures ∙ ap statement_view c.in-Defers.is) c.in_ok-stuck-in-Defers.ensures

pub returns-in_ok-push-in-Generates-clause-code : goal.returns-in_ok-push-in-Generates-clause-code
returns-in_ok-push-in-Generates-clause-code g c =
    generator_claused c.args.lowering.now.tables.now.program.now (tree_of c.args.part.now)
    (scope_of c.args.scopes.now) c.args.around
    (generator_view c.in-Generates.generator) c.args.turns.now.items _ c.in_ok-turn-in-Generates.turn _
    (built c.args.builder.now) _
    (sym c.statement_of.ensures ∙ ap statement_view c.in-Generates.is) c.in_ok-turn-in-Generates.ensures.local
    c.in_ok-turn-in-Generates.ensures.begun c.in_ok-turn-in-Generates.ensures.added
    c.in_ok-turn-in-Generates.ensures.scopes c.in_ok-push-in-Generates.ensures.items
