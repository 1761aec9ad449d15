use Rattle.sim_clock.proofs.Edits.{marks_remove, unmarked, in_order_remove}
use Rattle.sim_clock.proofs.queue.Queue.remove.Goals as goal

pub invariant_of-self : goal.invariant_of-self
invariant_of-self c = rw c.take_out.ensures.items (in_order_remove _ c.self.invariant _ _ _ c.in-Ok.ensures.found)

pub returns-in-Ok-clause-marks : goal.returns-in-Ok-clause-marks
returns-in-Ok-clause-marks c = rw (c.take_out.ensures.items, ← c.self.view_is) (marks_remove _ c.self.invariant _ _ _ c.in-Ok.ensures.found)

pub returns-in_default-clause-marks : goal.returns-in_default-clause-marks
returns-in_default-clause-marks c = rw (← c.self.view_is) (unmarked _ _ _ _ c.in_default.ensures.gap)
