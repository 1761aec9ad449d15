-- Waits by their numbers, and an index that tells where each stands.
use Rattle.std.specs.Prelude.{◌≡◌, ℕ, Bool, false, cond, List, [], ◌∷◌, Option, Some, None}
use Rattle.std.specs.Ordering.{nat_cmp, is_eq}
use Rattle.std.specs.BTreeMap.{BTreeMap, IsOrdered, get}
use Rattle.sim_clock.specs.declared.waits.WaitKind.{WaitKind}
use Rattle.sim_clock.specs.declared.waits.WaitKind.TheVariants.{At, Never, Task, Event}
use Rattle.sim_clock.specs.declared.waits.Wake.{Wake}
use Rattle.sim_clock.specs.declared.waits.Pending.{Pending}
use Rattle.sim_clock.specs.declared.places.Where.{Where}
use Rattle.sim_clock.specs.declared.index.Index.{Index}
use Rattle.sim_clock.specs.Pending.{given}
use Rattle.sim_clock.specs.Places.{same_place, where_of}
use Rattle.sim_clock.specs.IndexView.{holds}

-- the wait with this number
abbrev pub at_number : BTreeMap ℕ Pending → ℕ → Option Pending
at_number m number = get nat_cmp m number

abbrev pub stands_at : Option Pending → Where → Bool
stands_at None w = false
stands_at (Some p) w = same_place w (where_of p)

-- a wait that no event and no task can wake has the moment that it was given
abbrev pub IsGiven : WaitKind → Option Wake → Type 0
IsGiven (At moment) wake = wake ≡ given (At moment)
IsGiven Never wake = wake ≡ None
IsGiven (Task task) wake = Unit {0}
IsGiven (Event cell) wake = Unit {0}

-- each wait is kept under its number
abbrev pub AllKept : List (ℕ × Pending) → Type 0
AllKept [] = Unit {0}
AllKept (e ∷ es) = (e.1.wait.number ≡ e.0) × IsGiven e.1.wait.kind e.1.wake × AllKept es

-- and the index tells where it stands
pub record IsIndexed (m : BTreeMap ℕ Pending) (i : Index) : Type 0 where
  pub ordered : IsOrdered nat_cmp m
  pub kept : AllKept m.entries
  pub placed : (place : Where) (n : ℕ) → holds i place n ≡ stands_at (at_number m n) place

-- what a look-up finds after a change at the number n
abbrev pub Changed : (ℕ → Option Pending) → (ℕ → Option Pending) → ℕ → Option Pending → Type 0
Changed old new n there = (m : ℕ) → new m ≡ cond (is_eq (nat_cmp n m)) there (old m)

abbrev pub stirred : Pending → Wake → Pending
stirred p wake = record p { wake = Some wake }
