use Rattle.std.proofs.Common.{◌≡◌, drop}
use Rattle.sim_clock.specs.Pending.{earlier, first_due}
use Rattle.sim_clock.proofs.vec_waits.VecWaitsWaits.next.Given as goal

-- what was found, or what comes before it among the rest
abbrev pub invariant-loop-pending : goal.invariant-loop-pending
invariant-loop-pending l = earlier l.found (first_due (drop l.pending-index l.self.pending.items)) ≡ first_due l.self.pending.items
