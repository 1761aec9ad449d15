-- Waits and the clock, by what tasks, events and waits give.
use Rattle.std.specs.Prelude.{◌≡◌, ℕ, List, [], ◌∷◌, length, Option, Some, None}
use Rattle.verse_value.specs.Val as v
use Rattle.verse_meaning_state.specs.State.{Clock, Given, Signal}
use Rattle.verse_meaning_state.specs.Waits.{Cause, till, never, done, heard, Wait, nth, given_by}
use Rattle.verse_sorts.specs.Sorts as s
use Rattle.verse_sorts.specs.Sorts.{Sort}
use Rattle.verse_sorts.specs.Typing.{at, Typing, Is}

module _ (up : ℕ → Option ℕ) where
  abbrev pub GivenOf : Typing → Sort → Option Given → Type 0
  GivenOf t a None = Unit {0}
  GivenOf t a (Some g) = Is up t g.value a

  abbrev pub SignalsOf : Typing → List Signal → Type 0
  SignalsOf t [] = Unit {0}
  SignalsOf t (g ∷ gs) = ((a : Sort) × (at t.cells g.event ≡ Some (s.event a)) ×
      Is up t g.given.value a) × SignalsOf t gs

  -- the tasks have given what their entries say, the signals carry what their events say, and each
  -- wait has a number
  pub record Clocked (t : Typing) (c : Clock) : Type 0 where
    pub entries : length c.results ≡ length t.entries
    pub waits : c.next ≡ length t.waits
    pub results : (i : ℕ) (a : Sort) → at t.entries i ≡ Some a →
        GivenOf t a (given_by (nth c.results i))
    pub signals : SignalsOf t c.signals

  -- what a wait of this cause gives
  abbrev pub CauseOf : Typing → Sort → Cause → Type 0
  CauseOf t a (till m) = Is up t v.unit a
  CauseOf t a never = Unit {0}
  CauseOf t a (done i) = at t.entries i ≡ Some a
  CauseOf t a (heard e) = at t.cells e ≡ Some (s.event a)

  -- each wait of a list has a cause of its number's sort
  abbrev pub WaitsOf : Typing → List Wait → Type 0
  WaitsOf t [] = Unit {0}
  WaitsOf t (w ∷ ws) = ((a : Sort) × (at t.waits w.number ≡ Some a) × CauseOf t a w.cause) ×
      WaitsOf t ws
