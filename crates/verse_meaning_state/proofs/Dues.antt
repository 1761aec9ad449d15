-- Which wait is due next.
use Rattle.std.proofs.Common.{◌≡◌, ℕ, Option, Some, None, arith, refl, ◌<◌, Bool, true, false, cond, nat_lt}
use Rattle.std.proofs.lemmas.Bool.Decides.{nat_tests}
use Rattle.verse_meaning_state.specs.State.{Given}
use Rattle.verse_meaning_state.specs.Waits.{Due, sooner, sooner_of}

pub sooner_swaps : (n k : ℕ) (g h : Given) (o : Option Due) → (n ≡ k → ⊥) → sooner n g (sooner k h o) ≡ sooner k h (sooner n g o)
sooner_swaps n k g h None d = grind (arith, nat_tests)
sooner_swaps n k g h (Some e) d = grind (arith, nat_tests)

pub sooner_of_swaps : (n k : ℕ) (a b : Option Given) (o : Option Due) → (n ≡ k → ⊥) →
    sooner_of n a (sooner_of k b o) ≡ sooner_of k b (sooner_of n a o)
sooner_of_swaps n k None b o d = refl
sooner_of_swaps n k (Some g) None o d = refl
sooner_of_swaps n k (Some g) (Some h) o d = sooner_swaps n k g h o d

abbrev pub DueBehind : ℕ → Option Due → Type 0
DueBehind m None = Unit {0}
DueBehind m (Some d) = m < d.given.moment

pub sooner_behind : (m n : ℕ) (g : Given) (o : Option Due) → DueBehind m (sooner n g o) → (m < g.moment) × DueBehind m o
sooner_behind m n g None h = (h, tt)
sooner_behind m n g (Some d) h =
    at (nat_lt d.given.moment g.moment) (nat_lt g.moment d.given.moment) (nat_lt d.number n) refl refl h
  where
    at : (a b c : Bool) → nat_lt d.given.moment g.moment ≡ a → nat_lt g.moment d.given.moment ≡ b →
        DueBehind m (cond a (Some d) (cond b (Some (record { number = n; given = g }))
        (cond c (Some d) (Some (record { number = n; given = g }))))) → (m < g.moment) × (m < d.given.moment)
    at true b c e f h = (grind (arith, nat_tests, e, h), h)
    at false true c e f h = (h, grind (arith, nat_tests, f, h))
    at false false true e f h = (grind (arith, nat_tests, e, f, h), h)
    at false false false e f h = (h, grind (arith, nat_tests, e, f, h))
