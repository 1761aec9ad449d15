use Rattle.std.proofs.Common.{sym, ap, ◌∙◌}
use Rattle.verse_tree.specs.View.{tree_of, two_of}
use Rattle.lower_expr.specs.Building.{built, made}
use Rattle.lower_expr.specs.Locals.{scope_of}
use Rattle.lower_parts.specs.Parts.{tree_code}
use Rattle.lower_blocks.specs.Insides.{nothing_inside, one_part, deferred, both_ends, within_view}
use Rattle.lower_blocks.proofs.Inner.{inner_by}
use Rattle.lower_blocks.proofs.statements.inner.Goals as goal

pub returns-in_ok-stuck-in-Nothing-clause-code : goal.returns-in_ok-stuck-in-Nothing-clause-code
returns-in_ok-stuck-in-Nothing-clause-code g c =
    inner_by c.args.lowering.now.tables.now.program.now (scope_of c.args.scopes.now) c.args.around
    (tree_of c.args.part.now)
    nothing_inside
    (built c.args.builder.now) _
    (sym c.tree_within.ensures ∙ ap within_view c.in-Nothing.is) c.in_ok-stuck-in-Nothing.ensures

pub returns-in_ok-part-in-Part-clause-code : goal.returns-in_ok-part-in-Part-clause-code
returns-in_ok-part-in-Part-clause-code g c =
    inner_by c.args.lowering.now.tables.now.program.now (scope_of c.args.scopes.now) c.args.around
    (tree_of c.args.part.now)
    (one_part (tree_of c.in-Part.value.now)) (built c.args.builder.now) _
    (sym c.tree_within.ensures ∙ ap within_view c.in-Part.is)
    c.in_ok-part-in-Part.ensures.code

pub returns-in_ok-part-in-Deferred-clause-code : goal.returns-in_ok-part-in-Deferred-clause-code
returns-in_ok-part-in-Deferred-clause-code g c =
    inner_by c.args.lowering.now.tables.now.program.now (scope_of c.args.scopes.now) c.args.around
    (tree_of c.args.part.now)
    (deferred (tree_of c.in-Deferred.block.now)) (built c.args.builder.now) _
    (sym c.tree_within.ensures ∙ ap within_view c.in-Deferred.is)
    (c.in_ok-part-in-Deferred.ensures.code
    ∙ ap (λ k. made
    (tree_code c.args.lowering.now.tables.now.program.now (tree_of c.in-Deferred.block.now)
    (scope_of c.args.scopes.now)
    k)
    (built c.args.builder.now)) c.enclosed.ensures)

pub returns-in_ok-range_ends-in-Ends-clause-code : goal.returns-in_ok-range_ends-in-Ends-clause-code
returns-in_ok-range_ends-in-Ends-clause-code g c =
    inner_by c.args.lowering.now.tables.now.program.now (scope_of c.args.scopes.now) c.args.around
    (tree_of c.args.part.now)
    (both_ends (two_of c.in-Ends.two.now).0 (two_of c.in-Ends.two.now).1) (built c.args.builder.now) _
    (sym c.tree_within.ensures ∙ ap within_view c.in-Ends.is) c.in_ok-range_ends-in-Ends.ensures.code
