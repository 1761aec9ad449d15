use Rattle.std.proofs.Common.{sym, ap, ◌∙◌}
use Rattle.verse_tree.specs.View.{tree_of}
use Rattle.lower_expr.specs.Locals.{scope_of}
use Rattle.note_stretches.specs.Noted.{noted, walked}
use Rattle.note_parts.specs.Parts.{tree_walk}
use Rattle.note_blocks.specs.Insides.{nothing_inside, one_part, deferred, within_view}
use Rattle.note_blocks.proofs.Inner.{inner_by, ends_by}
use Rattle.note_blocks.proofs.statements.inner.Goals as goal

pub returns-in_ok-ends-in-Nothing-clause-states : goal.returns-in_ok-ends-in-Nothing-clause-states
returns-in_ok-ends-in-Nothing-clause-states g c =
    inner_by c.args.noter.now.tables.now.program.now (scope_of c.args.scopes.now) c.args.around
    (tree_of c.args.part.now) nothing_inside (noted c.args.noting.now) _
    (sym c.tree_within.ensures ∙ ap within_view c.in-Nothing.is) c.in_ok-ends-in-Nothing.ensures

pub returns-in_ok-part-in-Part-clause-states : goal.returns-in_ok-part-in-Part-clause-states
returns-in_ok-part-in-Part-clause-states g c =
    inner_by c.args.noter.now.tables.now.program.now (scope_of c.args.scopes.now) c.args.around
    (tree_of c.args.part.now) (one_part (tree_of c.in-Part.value.now)) (noted c.args.noting.now) _
    (sym c.tree_within.ensures ∙ ap within_view c.in-Part.is) c.in_ok-part-in-Part.ensures.states

pub returns-in_ok-part-in-Deferred-clause-states : goal.returns-in_ok-part-in-Deferred-clause-states
returns-in_ok-part-in-Deferred-clause-states g c =
    inner_by c.args.noter.now.tables.now.program.now (scope_of c.args.scopes.now) c.args.around
    (tree_of c.args.part.now) (deferred (tree_of c.in-Deferred.block.now)) (noted c.args.noting.now) _
    (sym c.tree_within.ensures ∙ ap within_view c.in-Deferred.is)
    (c.in_ok-part-in-Deferred.ensures.states
    ∙ ap (λ k. walked
    (tree_walk c.args.noter.now.tables.now.program.now (tree_of c.in-Deferred.block.now)
    (scope_of c.args.scopes.now) k) (noted c.args.noting.now)) c.enclosed.ensures)

pub returns-in_ok-part-in-Ends-2-clause-states : goal.returns-in_ok-part-in-Ends-2-clause-states
returns-in_ok-part-in-Ends-2-clause-states g c =
    ends_by c.args.noter.now.tables.now.program.now (scope_of c.args.scopes.now)
    c.args.around (tree_of c.args.part.now)
    _ _ _ _ _ _ (noted c.args.noting.now) _ _
    (sym c.tree_within.ensures ∙ ap within_view c.in-Ends.is) c.left.ensures c.right.ensures
    c.in_ok-part-in-Ends.ensures.scopes
    c.in_ok-up-in-Ends.ensures c.in_ok-part-in-Ends.ensures.states c.in_ok-part-in-Ends-2.ensures.states
