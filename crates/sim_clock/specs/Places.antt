-- Where a wait stands among others: by its moment, or by what it waits for.
use Rattle.std.specs.Prelude.{◌≡◌, ℕ, nat_eq, Bool, false, ◌&&◌, ◌||◌, Option, Some, None}
use Rattle.std.specs.Prelude.{if◌then◌else◌}
use Rattle.sim_clock.specs.declared.waits.WaitKind.{WaitKind}
use Rattle.sim_clock.specs.declared.waits.WaitKind.TheVariants.{At, Never, Task, Event}
use Rattle.sim_clock.specs.declared.waits.Wake.{Wake}
use Rattle.sim_clock.specs.declared.waits.Pending.{Pending}
use Rattle.sim_clock.specs.declared.places.Where.{Where}
use Rattle.sim_clock.specs.declared.places.Where.TheVariants.{Timed, OnEvent, OnTask, Woken}
use Rattle.sim_clock.specs.declared.places.Where.TheVariants.{Nowhere}

-- what waits for something stands there until it is woken
abbrev pub or_woken : Where → Option Wake → Where
or_woken place None = place
or_woken place (Some wake) = Woken wake.at

abbrev pub place_of : WaitKind → Option Wake → Where
place_of (At moment) wake = Timed moment
place_of Never wake = Nowhere
place_of (Task task) wake = or_woken (OnTask task) wake
place_of (Event cell) wake = or_woken (OnEvent cell) wake

abbrev pub where_of : Pending → Where
where_of p = place_of p.wait.kind p.wake

-- the two are one place, which nowhere is not
abbrev pub same_place : Where → Where → Bool
same_place (Timed a) (Timed b) = nat_eq a b
same_place (OnEvent a) (OnEvent b) = nat_eq a b
same_place (OnTask a) (OnTask b) = nat_eq a b
same_place (Woken a) (Woken b) = nat_eq a b
same_place _ _ = false

-- the wait with this number stands at this place in the new and not the old, or the other way round
abbrev pub Stands : (Where → ℕ → Bool) → (Where → ℕ → Bool) → Where → ℕ → Bool → Type 0
Stands old new place number there = (w : Where) (m : ℕ) →
    new w m ≡ (if same_place w place && nat_eq m number then there else old w m)

-- what stands there waits for an event or a task
abbrev pub IsAsleep : Where → Type 0
IsAsleep (OnEvent cell) = Unit {0}
IsAsleep (OnTask task) = Unit {0}
IsAsleep _ = ⊥

abbrev pub kind_at : Where → WaitKind
kind_at (OnEvent cell) = Event cell
kind_at (OnTask task) = Task task
kind_at _ = Never

-- the waits that have a moment
abbrev pub has_moment : (Where → ℕ → Bool) → ℕ → ℕ → Bool
has_moment holds at number = holds (Timed at) number || holds (Woken at) number
