use Rattle.sim_clock.proofs.Edits.{marks_insert, marked, in_order_insert}
use Rattle.sim_clock.proofs.queue.Queue.insert.Goals as goal

pub invariant_of-self : goal.invariant_of-self
invariant_of-self c = rw c.put.ensures.items (in_order_insert _ c.self.invariant _ _ _ c.in-Err.ensures.gap)

pub returns-in-Err-clause-marks : goal.returns-in-Err-clause-marks
returns-in-Err-clause-marks c = rw (c.put.ensures.items, ← c.self.view_is) (marks_insert _ _ _ _ c.in-Err.ensures.gap)

pub returns-in_default-clause-marks : goal.returns-in_default-clause-marks
returns-in_default-clause-marks c = rw (← c.self.view_is) (marked _ _ _ _ c.in_default.ensures.found)
