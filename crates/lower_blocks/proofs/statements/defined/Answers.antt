use Rattle.std.proofs.Common.{ap, ◌∙◌}
use Rattle.verse_tree.specs.View.{tree_of}
use Rattle.lower_lookup.specs.Statements.{binder_view}
use Rattle.lower_code.specs.Lowering.{with_binder}
use Rattle.lower_expr.specs.Building.{built}
use Rattle.lower_expr.specs.Locals.{scope_of}
use Rattle.lower_blocks.proofs.Stated.{defined_by}
use Rattle.lower_blocks.proofs.statements.defined.Goals as goal

pub returns-clause-code : goal.returns-clause-code
returns-clause-code g c =
    defined_by c.args.lowering.now.tables.now.program.now (tree_of c.args.part.now)
    (scope_of c.args.scopes.now) c.args.around
    (binder_view c.args.binder) _ (built c.args.builder.now) _ _ c.in_ok-inner.ensures.code
    c.in_ok-inner.ensures.scopes c.in_ok-bind.ensures.code

pub returns-clause-scopes : goal.returns-clause-scopes
returns-clause-scopes g c =
    c.in_ok-bind.ensures.scopes ∙ ap (with_binder (binder_view c.args.binder)) c.in_ok-inner.ensures.scopes
