use Rattle.std.proofs.Common.{◌≡◌}
use Rattle.std.specs.BTreeMap.{values}
use Rattle.sim_clock.specs.Pending.{woken}
use Rattle.sim_clock.specs.Places.{kind_at}
use Rattle.sim_clock.specs.IndexView.{asleep_count}
use Rattle.sim_clock.specs.Indexed.{IsIndexed}
use Rattle.sim_clock.proofs.map_waits.wake_all.Given as goal

-- to wake all that are left wakes all
abbrev pub invariant-loop-number : goal.invariant-loop-number
invariant-loop-number l = record {
  indexed : IsIndexed l.pending l.index;
  left : woken (kind_at l.place) l.wake (values l.pending) ≡ woken (kind_at l.place) l.wake (values l.fn.pending);
}

abbrev pub decreases-loop-number : goal.decreases-loop-number
decreases-loop-number l = asleep_count l.index
