use Rattle.std.proofs.Common.{refl}
use Rattle.sim_clock.proofs.Numbered.{entries_pushed, absent_above, kept_pushed, values_pushed, given_is}
use Rattle.sim_clock.proofs.Placed.{entering}
use Rattle.sim_clock.proofs.map_waits.MapWaitsWaits.add.Goals as goal

pub invariant_of-self-in-Ok : goal.invariant_of-self-in-Ok
invariant_of-self-in-Ok c =
    let above = rw (← c.self.view_is) at c.requires in
    let kept = c.self.invariant.kept in
    let pushed = entries_pushed _ c.args.wait.number (record { wait = c.args.wait; wake = c.given.result }) kept above in
    record {
      ordered = c.in-Ok.ensures.ordered;
      kept = rw (c.in-Ok.ensures.entries, pushed) (kept_pushed _ _ _ kept refl (rw c.given.ensures (given_is c.args.wait.kind)));
      placed = entering _ _ _ _ c.args.wait.number c.self.invariant.placed _ (absent_above _ _ kept above) c.in-Ok.ensures.updates.0
          (rw c.where_of-place.ensures at c.in_ok-insert.ensures.ok);
    }

pub returns-in-Ok-clause-ok : goal.returns-in-Ok-clause-ok
returns-in-Ok-clause-ok c =
    let above = rw (← c.self.view_is) at c.requires in
    let pushed = entries_pushed _ c.args.wait.number (record { wait = c.args.wait; wake = c.given.result }) c.self.invariant.kept above in
    rw (c.in-Ok.ensures.entries, pushed, ← c.self.view_is, ← c.given.ensures) (values_pushed _ _ _)
