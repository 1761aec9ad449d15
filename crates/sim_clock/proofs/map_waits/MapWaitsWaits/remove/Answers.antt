use Rattle.std.proofs.Common.{sym}
use Rattle.sim_clock.proofs.Numbered.{values_removed, kept_removed}
use Rattle.sim_clock.proofs.Placed.{leaving}
use Rattle.sim_clock.proofs.map_waits.MapWaitsWaits.remove.Goals as goal

pub invariant_of-self : goal.invariant_of-self
invariant_of-self c = record {
  ordered = c.in-Some.ensures.ordered;
  kept = rw c.in-Some.ensures.entries (kept_removed _ _ c.self.invariant.kept);
  placed = leaving _ _ _ _ c.args.number c.self.invariant.placed c.in-Some.pending (sym c.in-Some.ensures.value) c.in-Some.ensures.updates.0
      (rw c.where_of.ensures at c.remove-in-Some.ensures);
}

pub returns-in-Some : goal.returns-in-Some
returns-in-Some c = rw (c.in-Some.ensures.entries, ← c.self.view_is) (values_removed _ c.args.number c.self.invariant.kept)

pub returns-in_default : goal.returns-in_default
returns-in_default c = rw (c.in_default.ensures.entries, ← c.self.view_is) (values_removed _ c.args.number c.self.invariant.kept)
