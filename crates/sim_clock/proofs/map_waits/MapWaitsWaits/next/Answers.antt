use Rattle.std.proofs.Common.{sym, ◌∙◌}
use mathlib.Core.Bool.{false≢true}
use Rattle.sim_clock.proofs.Soonest.{none_is_due, no_moment, least_is_first}
use Rattle.sim_clock.proofs.map_waits.MapWaitsWaits.next.Goals as goal

pub returns-in_err-number : goal.returns-in_err-number
returns-in_err-number c = rw (c.from_residual.ensures, ← c.self.view_is)
    (sym (none_is_due _ _ c.self.invariant c.in_err-number.ensures.none))

pub returns-in_err-pending : goal.returns-in_err-pending
returns-in_err-pending c =
    absurd (false≢true (sym (no_moment _ _ c.self.invariant _ c.in_ok-number.number (sym c.in_err-pending.ensures.value)) ∙
    c.in_ok-number.ensures.least.member))

pub returns : goal.returns
returns c =
    rw (c.due_of.ensures, ← c.self.view_is) (least_is_first _ _ c.self.invariant _ c.in_ok-number.number c.in_ok-number.ensures.least
    c.in_ok-pending.pending.now (sym c.in_ok-pending.ensures.value))
