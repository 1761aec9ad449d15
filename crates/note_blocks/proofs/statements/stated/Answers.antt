use Rattle.std.proofs.Common.{sym, ap, ◌∙◌}
use Rattle.verse_tree.specs.View.{tree_of}
use Rattle.lower_lookup.specs.Statements.{binder_view, generator_view, statement_view}
use Rattle.lower_expr.specs.Locals.{scope_of}
use Rattle.note_stretches.specs.Noted.{noted}
use Rattle.note_blocks.proofs.Stated.{plainly_stated, definition_stated, defer_stated, generator_stated}
use Rattle.note_blocks.proofs.statements.stated.Goals as goal

pub returns-in_ok-part-in-Plain-clause-states : goal.returns-in_ok-part-in-Plain-clause-states
returns-in_ok-part-in-Plain-clause-states g c =
    plainly_stated c.args.noter.now.tables.now.program.now (tree_of c.args.part.now)
    (scope_of c.args.scopes.now) c.args.around (noted c.args.noting.now) _
    (sym c.statement_of.ensures ∙ ap statement_view c.in-Plain.is) c.in_ok-part-in-Plain.ensures.states

pub returns-in_ok-bind-in-Defines-clause-states : goal.returns-in_ok-bind-in-Defines-clause-states
returns-in_ok-bind-in-Defines-clause-states g c =
    definition_stated c.args.noter.now.tables.now.program.now (tree_of c.args.part.now)
    (scope_of c.args.scopes.now) c.args.around
    (binder_view c.in-Defines.binder) _ c.number_of.result (noted c.args.noting.now) _ _
    (sym c.statement_of.ensures ∙ ap statement_view c.in-Defines.is) c.number_of.ensures
    c.in_ok-inner-in-Defines.ensures.states c.in_ok-inner-in-Defines.ensures.scopes c.in_ok-bind-in-Defines.ensures.states

pub returns-in_ok-deferring-in-Defers-clause-states : goal.returns-in_ok-deferring-in-Defers-clause-states
returns-in_ok-deferring-in-Defers-clause-states g c =
    defer_stated c.args.noter.now.tables.now.program.now (tree_of c.args.part.now)
    (scope_of c.args.scopes.now) c.args.around
    (tree_of c.in-Defers.field-0.now) (noted c.args.noting.now) _
    (sym c.statement_of.ensures ∙ ap statement_view c.in-Defers.is) c.in_ok-deferred-in-Defers.ensures.states

pub returns-in_ok-ends-in-Generates-clause-states : goal.returns-in_ok-ends-in-Generates-clause-states
returns-in_ok-ends-in-Generates-clause-states g c =
    generator_stated c.args.noter.now.tables.now.program.now (tree_of c.args.part.now)
    (scope_of c.args.scopes.now) c.args.around
    (generator_view c.in-Generates.field-0) (noted c.args.noting.now) _
    (sym c.statement_of.ensures ∙ ap statement_view c.in-Generates.is)
    c.in_ok-ends-in-Generates.ensures
