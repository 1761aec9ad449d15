use Rattle.std.proofs.Common.{map, sym, ap, ◌∙◌}
use Rattle.verse_tree.specs.View.{tree_of}
use Rattle.lower_lookup.specs.Statements.{binder_view, generator_view, statement_view}
use Rattle.lower_expr.specs.Locals.{scope_of}
use Rattle.note_states.specs.View.{standing_of}
use Rattle.note_stretches.specs.Noted.{noted}
use Rattle.note_loops.proofs.Claused.{plainly_claused, definition_claused, defer_claused, generator_claused}
use Rattle.note_loops.proofs.loops.clause.Goals as goal

pub returns-in_ok-drop_values-in-Plain-clause-states : goal.returns-in_ok-drop_values-in-Plain-clause-states
returns-in_ok-drop_values-in-Plain-clause-states g c =
    plainly_claused c.args.noter.now.tables.now.program.now (tree_of c.args.part.now)
    (scope_of c.args.scopes.now) c.args.around
    (map standing_of c.args.turns.now.items) _ (noted c.args.noting.now) _ _
    (sym c.statement_of.ensures ∙ ap statement_view c.in-Plain.is)
    c.in_ok-part-in-Plain.ensures.states c.in_ok-part-in-Plain.ensures.scopes c.in_ok-drop_values-in-Plain.ensures

pub returns-in_ok-drop_values-in-Defines-clause-states : goal.returns-in_ok-drop_values-in-Defines-clause-states
returns-in_ok-drop_values-in-Defines-clause-states g c =
    definition_claused c.args.noter.now.tables.now.program.now (tree_of c.args.part.now)
    (scope_of c.args.scopes.now) c.args.around
    (binder_view c.in-Defines.binder) (map standing_of c.args.turns.now.items) _ _ c.number_of.result
    (noted c.args.noting.now) _ _ _
    (sym c.statement_of.ensures ∙ ap statement_view c.in-Defines.is) c.number_of.ensures
    c.in_ok-inner-in-Defines.ensures.states
    c.in_ok-inner-in-Defines.ensures.scopes c.in_ok-bind-in-Defines.ensures.states c.in_ok-bind-in-Defines.ensures.scopes
    c.in_ok-drop_values-in-Defines.ensures

pub returns-in_ok-ends-in-Defers-clause-states : goal.returns-in_ok-ends-in-Defers-clause-states
returns-in_ok-ends-in-Defers-clause-states g c =
    defer_claused c.args.noter.now.tables.now.program.now (tree_of c.args.part.now)
    (scope_of c.args.scopes.now) c.args.around
    (tree_of c.in-Defers.field-0.now) (map standing_of c.args.turns.now.items) (scope_of c.args.scopes.now)
    (noted c.args.noting.now) _
    (sym c.statement_of.ensures ∙ ap statement_view c.in-Defers.is) c.in_ok-ends-in-Defers.ensures

pub returns-in_ok-push-in-Generates-clause-states : goal.returns-in_ok-push-in-Generates-clause-states
returns-in_ok-push-in-Generates-clause-states g c =
    generator_claused c.args.noter.now.tables.now.program.now (tree_of c.args.part.now)
    (scope_of c.args.scopes.now) c.args.around
    (generator_view c.in-Generates.generator) c.args.turns.now.items _ _ _ _ c.number_of-in-Generates.result
    (noted c.args.noting.now) _ _
    (sym c.statement_of.ensures ∙ ap statement_view c.in-Generates.is) c.number_of-in-Generates.ensures
    c.in_ok-inner-in-Generates.ensures.states
    c.in_ok-inner-in-Generates.ensures.scopes c.in_ok-at-in-Generates.ensures.at
    c.in_ok-at-in-Generates.ensures.begun
    c.in_ok-at-in-Generates.ensures.scopes c.in_ok-push-in-Generates.ensures.items
