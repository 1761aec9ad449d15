-- At a horizon no wait that is left is due.
use Rattle.std.proofs.Common.{◌≡◌, ℕ, zero, suc, ◌<◌, List, [], ◌∷◌, Option, Some, None, Bool, true, false, cond, nat_lt, refl, arith}
use Rattle.std.proofs.Common.{subst}
use Rattle.std.proofs.lemmas.Bool.Decides.{nat_tests}
use Rattle.verse_value.specs.declared.runs.Ending.TheVariants as ending
use Rattle.verse_meaning_state.specs.State.{State, Given, Signal, spending, at_moment}
use Rattle.verse_meaning_state.specs.Waits.{Wait, eqn, ltn, nth, given_by, due_of, Due, first_signal, least, sooner_of}
use Rattle.verse_meaning_state.specs.Turns.{Stage, closed, turn, turn_at}
use Rattle.verse_meaning_state.proofs.Dues.{DueBehind, sooner_behind}
use Rattle.verse_code_machine.specs.Tasks.{tree_waits}
use Rattle.verse_code_machine.specs.Runs.{Forest}
use Rattle.verse_code_machine_saved.specs.Horizons.{NoLater, NoResultLater, Unheard, Undone, NoneReached}

-- it is due behind the moment, or never
abbrev Behind : ℕ → Option Given → Type 0
Behind m None = Unit {0}
Behind m (Some g) = m < g.moment

abbrev AllBehind : ℕ → State → List Wait → Type 0
AllBehind m s [] = Unit {0}
AllBehind m s (w ∷ ws) = Behind m (due_of s w.number w.cause) × AllBehind m s ws

of_behind : (m n : ℕ) (g : Option Given) (o : Option Due) → DueBehind m (sooner_of n g o) → Behind m g × DueBehind m o
of_behind m n None o h = (tt, h)
of_behind m n (Some g) o h = sooner_behind m n g o h

all_behind : (m : ℕ) (s : State) (ws : List Wait) → DueBehind m (least s ws) → AllBehind m s ws
all_behind m s [] h = tt
all_behind m s (w ∷ ws) h =
    let r = of_behind m w.number (due_of s w.number w.cause) (least s ws) h in (r.0, all_behind m s ws r.1)

first_by : (m : ℕ) (gs : List Signal) (e n : ℕ) → NoLater m gs → Behind m (first_signal gs e n) → first_signal gs e n ≡ None
first_by m [] e n l h = refl
first_by m (g ∷ gs) e n l h = at (eqn e g.event) (ltn n g.next) (first_by m gs e n l.1) h
  where
    at : (a b : Bool) → (Behind m (first_signal gs e n) → first_signal gs e n ≡ None) →
        Behind m (cond a (cond b (Some g.given) (first_signal gs e n)) (first_signal gs e n)) →
        cond a (cond b (Some g.given) (first_signal gs e n)) (first_signal gs e n) ≡ None
    at true true f h = absurd (omega (arith, h, l.0))
    at true false f h = f h
    at false b f h = f h

given_by_then : (m : ℕ) (rs : List (Option Given)) (e : ℕ) → NoResultLater m rs → Behind m (given_by (nth rs e)) →
    given_by (nth rs e) ≡ None
given_by_then m [] e l h = refl
given_by_then m (None ∷ rs) zero l h = refl
given_by_then m (Some g ∷ rs) zero l h = absurd (omega (arith, h, l.0))
given_by_then m (None ∷ rs) (suc e) l h = given_by_then m rs e l h
given_by_then m (Some g ∷ rs) (suc e) l h = given_by_then m rs e l.1 h

module _ (m : ℕ) (s : State) (l : NoLater m s.clock.signals) (r : NoResultLater m s.clock.results) where
  unheard : (ws : List Wait) → AllBehind m s ws → Unheard s.clock.signals ws
  unheard [] a = tt
  unheard (w ∷ ws) a =
      ((λ e h. first_by m s.clock.signals e w.number l (subst (λ c. Behind m (due_of s w.number c)) h a.0)), unheard ws a.1)

  undone : (ws : List Wait) → AllBehind m s ws → Undone s.clock.results ws
  undone [] a = tt
  undone (w ∷ ws) a =
      ((λ e h. given_by_then m s.clock.results e r (subst (λ c. Behind m (due_of s w.number c)) h a.0)), undone ws a.1)

module _ (until : ℕ) (s t : State) (tss uss : Forest) (go : Due → State → Stage Forest)
    (on : (d : Due) (s : State) → go d s ≡ closed ending.Until t uss → ⊥) where
  spent_not : (left : ℕ) (d : Due) → spending left s (closed ending.Steps s tss) (λ s. go d (at_moment d.given.moment s)) ≡
      closed ending.Until t uss → ⊥
  spent_not zero d e = grind (arith, e)
  spent_not (suc left) d e = on d _ e

  behind_at : (o : Option Due) → turn_at until o s tss go ≡ closed ending.Until t uss → DueBehind until o
  behind_at None e = tt
  behind_at (Some d) e = late (nat_lt until d.given.moment) refl e
    where
      late : (a : Bool) → nat_lt until d.given.moment ≡ a →
          cond a (closed ending.Until s tss) (spending s.clock.left s (closed ending.Steps s tss) (λ s. go d (at_moment d.given.moment
          s))) ≡ closed ending.Until t uss → until < d.given.moment
      late true f e = grind (arith, nat_tests, f)
      late false f e = absurd (spent_not s.clock.left d e)

  behind : (ws : List Wait) → turn until ws s tss go ≡ closed ending.Until t uss → DueBehind until (least s ws)
  behind [] e = tt
  behind (w ∷ ws) e = behind_at (least s (w ∷ ws)) e

pub none_reached : NoneReached
none_reached until s t tss uss go on l r e =
    let a = all_behind until s (tree_waits tss) (behind until s t tss uss go on (tree_waits tss) e) in
    (unheard until s l r (tree_waits tss) a, undone until s l r (tree_waits tss) a)
