use Rattle.std.proofs.Common.{sym, ap, ◌∙◌}
use Rattle.verse_tree.specs.View.{tree_of}
use Rattle.lower_lookup.specs.Statements.{binder_view, generator_view, statement_view}
use Rattle.lower_expr.specs.Building.{built}
use Rattle.lower_expr.specs.Locals.{scope_of}
use Rattle.lower_blocks.proofs.Stated.{plainly_stated, definition_stated, defer_stated, generator_stated}
use Rattle.lower_blocks.proofs.statements.stated.Goals as goal

pub returns-in_ok-part-in-Plain-clause-code : goal.returns-in_ok-part-in-Plain-clause-code
returns-in_ok-part-in-Plain-clause-code g c =
    plainly_stated c.args.lowering.now.tables.now.program.now (tree_of c.args.part.now)
    (scope_of c.args.scopes.now) c.args.around
    (built c.args.builder.now) _
    (sym c.statement_of.ensures ∙ ap statement_view c.in-Plain.is) c.in_ok-part-in-Plain.ensures.code

pub returns-in_ok-defined-in-Defines-clause-code : goal.returns-in_ok-defined-in-Defines-clause-code
returns-in_ok-defined-in-Defines-clause-code g c =
    definition_stated c.args.lowering.now.tables.now.program.now (tree_of c.args.part.now)
    (scope_of c.args.scopes.now) c.args.around
    (binder_view c.in-Defines.binder) (built c.args.builder.now) _
    (sym c.statement_of.ensures ∙ ap statement_view c.in-Defines.is) c.in_ok-defined-in-Defines.ensures.code

pub returns-in_ok-deferring-in-Defers-clause-code : goal.returns-in_ok-deferring-in-Defers-clause-code
returns-in_ok-deferring-in-Defers-clause-code g c =
    defer_stated c.args.lowering.now.tables.now.program.now (tree_of c.args.part.now)
    (scope_of c.args.scopes.now) c.args.around
    (tree_of c.in-Defers.field-0.now) (built c.args.builder.now) _
    (sym c.statement_of.ensures ∙ ap statement_view c.in-Defers.is) c.in_ok-deferred-in-Defers.ensures.code

pub returns-in_ok-stuck-in-Generates-clause-code : goal.returns-in_ok-stuck-in-Generates-clause-code
returns-in_ok-stuck-in-Generates-clause-code g c =
    generator_stated c.args.lowering.now.tables.now.program.now (tree_of c.args.part.now)
    (scope_of c.args.scopes.now) c.args.around
    (generator_view c.in-Generates.field-0) (built c.args.builder.now) _
    (sym c.statement_of.ensures ∙ ap statement_view c.in-Generates.is)
    c.in_ok-stuck-in-Generates.ensures
