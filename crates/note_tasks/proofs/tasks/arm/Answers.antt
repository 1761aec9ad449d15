use Rattle.verse_tree.specs.View.{tree_of}
use Rattle.lower_expr.specs.Locals.{scope_of}
use Rattle.note_states.specs.View.{standing_of}
use Rattle.note_stretches.specs.Noted.{noted}
use Rattle.note_tasks.proofs.Arms.{arm_is}
use Rattle.note_tasks.proofs.tasks.arm.Goals as goal

pub returns-clause-states : goal.returns-clause-states
returns-clause-states g c =
    arm_is c.args.noter.now.tables.now.program.now (scope_of c.args.scopes.now) (tree_of c.args.part.now) c.fresh.result
    c.number_of.result (standing_of c.args.before) (noted c.args.noting.now) _ _ _ _ c.attempt_end.ensures
    c.number_of.ensures c.in_ok-in_arm.ensures c.fresh.ensures c.in_ok-part.ensures.states c.in_ok-ends.ensures
