use Rattle.std.proofs.Common.{◌≡◌}
use Rattle.sim_clock.specs.Pending.{wait_of}
use Rattle.sim_clock.proofs.map_waits.MapWaitsWaits.wait_of.Given as goal

-- the rest has the answer
abbrev pub invariant-loop-pending : goal.invariant-loop-pending
invariant-loop-pending l = record {
  can_next : (goal.iterator-loop-pending).can_next l.pending-iterator;
  is_finite : (goal.iterator-loop-pending).is_finite l.pending-iterator;
  rest : wait_of l.task l.pending-iterator ≡ wait_of l.task l.self;
}
