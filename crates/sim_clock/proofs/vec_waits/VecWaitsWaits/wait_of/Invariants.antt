use Rattle.std.proofs.Common.{◌≡◌, drop}
use Rattle.sim_clock.specs.Pending.{wait_of}
use Rattle.sim_clock.proofs.vec_waits.VecWaitsWaits.wait_of.Given as goal

-- the rest has the answer
abbrev pub invariant-loop-pending : goal.invariant-loop-pending
invariant-loop-pending l = wait_of l.task (drop l.pending-index l.self.pending.items) ≡ wait_of l.task l.self.pending.items
