use Rattle.std.proofs.Common.{◌∙◌, map}
use Rattle.verse_tree.specs.View.{tree_of, trees}
use Rattle.lower_expr.specs.Locals.{scope_of}
use Rattle.note_stretches.specs.Noted.{noted}
use Rattle.note_tasks.proofs.Arms.{group_is}
use Rattle.note_tasks.proofs.tasks.group.Goals as goal

pub returns-clause-states : goal.returns-clause-states
returns-clause-states g c =
    group_is c.args.noter.now.tables.now.program.now c.args.node (trees (map tree_of c.args.parts.now))
    (scope_of c.args.scopes.now) c.in_ok-count.count _ _ (noted c.args.noting.now) _ _ _
    (c.in_ok-count.ensures ∙ c.how_many.ensures) c.in_ok-before.ensures
    c.in_ok-behind.ensures.behind c.in_ok-behind.ensures.begun
    c.in_ok-arms.ensures.states c.attempt_end.ensures
