use Rattle.verse_tree.specs.View.{tree_of}
use Rattle.lower_expr.specs.Locals.{scope_of}
use Rattle.note_stretches.specs.Noted.{noted}
use Rattle.note_blocks.proofs.Steps.{constant_by}
use Rattle.note_blocks.proofs.blocks.constant.Goals as goal

pub returns-clause-states : goal.returns-clause-states
returns-clause-states g c =
    constant_by c.args.noter.now.tables.now.program.now (scope_of c.args.scopes.now) c.args.around
    (tree_of c.args.value.now) c.args.node c.in_ok-local.local (noted c.args.noting.now) _ _ c.in_ok-local.ensures
    c.in_ok-part.ensures.states c.in_ok-keep.ensures
