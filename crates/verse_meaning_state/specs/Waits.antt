-- Waits, and when they are due.
use Rattle.std.specs.Prelude.{ℕ, zero, suc, ◌+◌, List, [], ◌∷◌, Option, Some, None, Bool, true}
use Rattle.std.specs.Prelude.{false, cond, nat_lt}
use Rattle.verse_value.specs.Val.{unit}
use Rattle.verse_meaning_state.specs.State.{State, Given, Signal}

pub data Cause : Type 0 where
  -- `Sleep`: a moment, or never
  till : (moment : ℕ) → Cause
  never : Cause
  -- the end of the task of an entry
  done : (entry : ℕ) → Cause
  -- a signal of the event of a cell
  heard : (event : ℕ) → Cause

-- a suspension, by its number
pub record Wait : Type 0 where
  pub number : ℕ
  pub cause : Cause

-- the next wait
abbrev pub waiting : Cause → State → Wait
waiting cause s = record { number = s.clock.next; cause = cause }

abbrev pub after : ℕ → State → Cause
after duration s = till (s.clock.now + duration)

abbrev pub eqn : ℕ → ℕ → Bool
eqn zero zero = true
eqn zero (suc b) = false
eqn (suc a) zero = false
eqn (suc a) (suc b) = eqn a b

abbrev pub ltn : ℕ → ℕ → Bool
ltn a zero = false
ltn zero (suc b) = true
ltn (suc a) (suc b) = ltn a b

-- the element at a place
abbrev pub nth : {A : Type 0} → List A → ℕ → Option A
nth [] n = None
nth (x ∷ xs) zero = Some x
nth (x ∷ xs) (suc n) = nth xs n

-- a wait of the list has the number
abbrev pub has : ℕ → List Wait → Bool
has n [] = false
has n (w ∷ ws) = cond (eqn n w.number) true (has n ws)

-- the first signal of an event behind a wait: its kept number is above the wait's
abbrev pub first_signal : List Signal → (event number : ℕ) → Option Given
first_signal [] e n = None
first_signal (g ∷ gs) e n = cond (eqn e g.event) (cond (ltn n g.next) (Some g.given) (first_signal gs e n)) (first_signal gs e n)

-- of a task: nothing while it runs, or where there is no such task
abbrev pub given_by : Option (Option Given) → Option Given
given_by None = None
given_by (Some given) = given

-- what a wait gives, and the moment when it is due
abbrev pub due_of : State → ℕ → Cause → Option Given
due_of s n (till moment) = Some (record { value = unit; moment = moment })
due_of s n never = None
due_of s n (done entry) = given_by (nth s.clock.results entry)
due_of s n (heard event) = first_signal s.clock.signals event n

pub record Due : Type 0 where
  pub number : ℕ
  pub given : Given

abbrev pub sooner : ℕ → Given → Option Due → Option Due
sooner n g None = Some (record { number = n; given = g })
sooner n g (Some d) =
    cond (nat_lt d.given.moment g.moment) (Some d)
    (cond (nat_lt g.moment d.given.moment) (Some (record {
      number = n;
      given =
          g;
    })) (cond (nat_lt d.number n) (Some d) (Some (record { number = n; given = g }))))

abbrev pub sooner_of : ℕ → Option Given → Option Due → Option Due
sooner_of n None other = other
sooner_of n (Some g) other = sooner n g other

-- the one with the least (moment, number)
abbrev pub least : State → List Wait → Option Due
least s [] = None
least s (w ∷ ws) = sooner_of w.number (due_of s w.number w.cause) (least s ws)
