use Rattle.std.proofs.Common.{◌≡◌, ◌++◌, take, drop}
use Rattle.sim_clock.specs.Pending.{woken}
use Rattle.sim_clock.proofs.vec_waits.VecWaits.wake.Given as goal

-- what stands before the place is woken, and the rest is as it was
abbrev pub invariant-loop-pending : goal.invariant-loop-pending
invariant-loop-pending l = l.pending-items ≡ woken l.kind l.wake (take l.pending-index l.fn.self.pending.items) ++
    drop l.pending-index l.fn.self.pending.items
