-- Waits in the order of their numbers, before any is woken.
use Rattle.std.specs.Prelude.{◌≡◌, ◌<◌, ℕ, List, [], ◌∷◌, map}
use Rattle.std.specs.List.Sorted.{IsPermutation}
use Rattle.sim_clock.specs.declared.waits.Wait.{Wait}
use Rattle.sim_clock.specs.declared.waits.Pending.{Pending}
use Rattle.sim_clock.specs.Pending.{given}

abbrev pub number_of : Wait → ℕ
number_of w = w.number

abbrev pub started : Wait → Pending
started w = record { wait = w; wake = given w.kind }

abbrev pub AllBelow : ℕ → List Wait → Type 0
AllBelow n [] = Unit {0}
AllBelow n (w ∷ ws) = (n < w.number) × AllBelow n ws

-- each number is above those before it
abbrev pub Rises : List Wait → Type 0
Rises [] = Unit {0}
Rises (w ∷ ws) = AllBelow w.number ws × Rises ws

-- the same waits, in the order of their numbers
pub record IsInOrder (all sorted : List Wait) : Type 0 where
  pub same : IsPermutation all sorted
  pub rises : Rises sorted

pub record Starts (all : List Wait) (ps : List Pending) : Type 0 where
  pub sorted : List Wait
  pub order : IsInOrder all sorted
  pub is : ps ≡ map started sorted
