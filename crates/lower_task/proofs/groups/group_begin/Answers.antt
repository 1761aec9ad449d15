use Rattle.lower_task.proofs.Arms.{jump_index}
use Rattle.lower_task.proofs.groups.group_begin.Goals as goal

pub returns-clause-jump : goal.returns-clause-jump
returns-clause-jump c = jump_index _ c.args.count _ _ _ _ _ _ c.in_ok-place.ensures.added c.in_ok-op.ensures c.in_ok-open_arms.ensures
    c.in_ok-jump.ensures
