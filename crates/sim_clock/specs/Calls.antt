-- What calls do to waits, one after another.
use Rattle.std.specs.Prelude.{◌≡◌, ◌≤◌, ℕ, List, [], ◌∷◌, length, take}
use Rattle.sim_clock.specs.Pending.{IsAboveAll, added, removed, woken}
use Rattle.sim_clock.specs.declared.waits.Pending.{Pending}
use Rattle.sim_clock.specs.declared.waits.WaitKind.TheVariants as kind
use Rattle.sim_clock.specs.declared.calls.Call.{Call}
use Rattle.sim_clock.specs.declared.calls.Call.TheVariants.{Add, Remove, WakeEvent, WakeTask}

-- the call may be made
abbrev pub IsAllowed : Call → List Pending → Type 0
IsAllowed (Add wait) ps = IsAboveAll wait.number ps
IsAllowed (Remove number) ps = Unit {0}
IsAllowed (WakeEvent cell signal now) ps = Unit {0}
IsAllowed (WakeTask task now) ps = Unit {0}

abbrev pub after : Call → List Pending → List Pending
after (Add wait) ps = added ps wait
after (Remove number) ps = removed number ps
after (WakeEvent cell signal now) ps =
    woken (kind.Event cell) (record { at = now; cause = signal }) ps
after (WakeTask task now) ps = woken (kind.Task task) (record { at = now; cause = 0 }) ps

-- each call may be made when its turn comes
abbrev pub AllAllowed : List Call → List Pending → Type 0
AllAllowed [] ps = Unit {0}
AllAllowed (c ∷ cs) ps = IsAllowed c ps × AllAllowed cs (after c ps)

abbrev pub after_all : List Call → List Pending → List Pending
after_all [] ps = ps
after_all (c ∷ cs) ps = after_all cs (after c ps)

-- some of the calls were made, from the first on
abbrev pub AfterSome : List Call → List Pending → List Pending → Type 0
AfterSome cs old new = (n : ℕ) × (n ≤ length cs) × (new ≡ after_all (take n cs) old)
