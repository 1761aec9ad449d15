use Rattle.std.proofs.Common.{◌<◌, length, arith}
use Rattle.sim_clock.specs.Pending.{woken_one}
use Rattle.sim_clock.proofs.Walks.{mapped_more}
use Rattle.sim_clock.proofs.vec_waits.VecWaits.wake.Goals as goal

pub loop-pending-preserved : goal.loop-pending-preserved
loop-pending-preserved c =
    let within : c.loop-pending.pending-index < length c.args.self.now.pending.items =
    grind (arith, c.loop-pending-test.true, c.deref_mut-pending-items.ensures.value) in
    rw (c.woken_one.ensures, c.loop-pending.invariant)
    (mapped_more (woken_one c.args.kind c.args.wake) c.args.self.now.pending.items _ _ within)
