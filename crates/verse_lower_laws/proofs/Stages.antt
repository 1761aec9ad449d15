-- One turn of the program, as it is seen: numbers, steps, and what goes on from the wait that is woken.
use Rattle.std.proofs.Common.{◌≡◌, ◌≤◌, ◌+◌, cond, ℕ, zero, suc, List, [], ◌∷◌, Option, Some, None, Bool, true, false}
use Rattle.std.proofs.Common.{refl, sym, subst, nat_lt, arith, map}
use Rattle.std.proofs.Math.Path.{ap, ◌∙◌}
use Rattle.std.proofs.Math.Nat.{le_refl, le_trans}
use Rattle.verse_value.specs.declared.runs.Ending.TheVariants as ending
use Rattle.verse_meaning_state.specs.State.{State, at_moment, spending, stepped}
use Rattle.verse_meaning_state.specs.Turns.{Stage, amiss, broken, closed, going, turn, turn_at, turns}
use Rattle.verse_meaning_state.specs.Waits.{Wait, Due, has, least, ltn}
use Rattle.verse_meaning.specs.Programs.{Program}
use Rattle.verse_meaning.specs.Runs.{Forest, forest_leaves, turn_taken, woken}
use Rattle.verse_meaning.specs.RunLaws.{NothingLost, NumberOnce, StageChances, StageHas, StageWaits, StepsCount, chances}
use Rattle.verse_meaning.specs.RunLaws.{count, forest_standing, stage_state, to_come}
use Rattle.lower_simulation.specs.Seen.{Seen, between, broke_off, ended, seen_of}
use Rattle.verse_lower_laws.specs.Laws.{Wakes, is_drawn, is_live, state_in, wait_number, waits}
use Rattle.lower_simulation_runs.specs.Programs.{Distinct}
use Rattle.verse_lower_laws.proofs.Waits.{counted_live, distinct_of, due_lives, due_number, live_counts, live_drawn}

abbrev pub told : Stage Forest → Seen
told g = seen_of forest_leaves g

pub told_state : (g : Stage Forest) → state_in (told g) ≡ stage_state g
told_state (going s fs) = refl
told_state (closed e s fs) = refl
told_state (broken e s) = refl
told_state (amiss s) = refl

-- no number has more chances than the bound
pub told_chances : (i b : ℕ) (g : Stage Forest) → StageChances i b g → count i (waits (told g)) ≤ b
told_chances i b (going s fs) a = omega (arith, a)
told_chances i b (closed e s fs) a = omega (arith, a)
told_chances i b (broken e s) a = omega arith
told_chances i b (amiss s) a = omega arith

weaker : (i b c : ℕ) (g : Stage Forest) → b ≤ c → StageChances i b g → StageChances i c g
weaker i b c (going s fs) h a = le_trans a h
weaker i b c (closed e s fs) h a = le_trans a h
weaker i b c (broken e s) h a = tt
weaker i b c (amiss s) h a = tt

pub gone_of : (i : ℕ) (g : Stage Forest) → count i (waits (told g)) ≤ 0 → to_come i (state_in (told g)) ≡ 0 → StageChances i 0 g
gone_of i (going s fs) a e = omega (arith, a, e)
gone_of i (closed x s fs) a e = omega (arith, a, e)
gone_of i (broken x s) a e = tt
gone_of i (amiss s) a e = tt

pub told_distinct : (g : Stage Forest) → ((i : ℕ) → StageChances i 1 g) → Distinct (map wait_number (waits (told g)))
told_distinct (going s fs) a = distinct_of s (forest_leaves fs) a
told_distinct (closed e s fs) a = distinct_of s (forest_leaves fs) a
told_distinct (broken e s) a = tt
told_distinct (amiss s) a = tt

pub told_drawn : (n : ℕ) (g : Stage Forest) → StageChances n 1 g → is_live n (told g) ≡ true → is_drawn n (told g) ≡ true
told_drawn n (going s fs) a e = live_drawn n s (forest_leaves fs) a e
told_drawn n (closed x s fs) a e = live_drawn n s (forest_leaves fs) a e
told_drawn n (broken x s) a e = cc
told_drawn n (amiss s) a e = cc

module _ (p : Program) (until : ℕ) where
  abbrev pub one_turn : Stage Forest → Stage Forest
  one_turn g = turns (turn_taken p until) 1 g

  pub one_more : (k : ℕ) (g : Stage Forest) → turns (turn_taken p until) (suc k) g ≡ one_turn (turns (turn_taken p until) k g)
  one_more zero g = refl
  one_more (suc k) (going s fs) = one_more k (turn_taken p until s fs)
  one_more (suc k) (closed e s fs) = refl
  one_more (suc k) (broken e s) = refl
  one_more (suc k) (amiss s) = refl

  pub fewer_left : StepsCount p → (g : Stage Forest) → (stage_state (one_turn g)).clock.left ≤ (stage_state g).clock.left
  fewer_left c (going s fs) = (c.turn until s fs).falls
  fewer_left c (closed e s fs) = le_refl s.clock.left
  fewer_left c (broken e s) = le_refl s.clock.left
  fewer_left c (amiss s) = le_refl s.clock.left

  module _ (c : NumberOnce p) where
    pub turn_counts : (i : ℕ) (g : Stage Forest) →
        count i (waits (told (one_turn g))) ≤ count i (waits (told g)) + to_come i (state_in (told g))
    turn_counts i (going s fs) =
        told_chances i (chances i s (forest_leaves fs)) (turn_taken p until s fs) (c.turn i until s fs)
    turn_counts i (closed e s fs) = omega arith
    turn_counts i (broken e s) = omega arith
    turn_counts i (amiss s) = omega arith

    pub stays_gone : (i : ℕ) (g : Stage Forest) → StageChances i 0 g → StageChances i 0 (one_turn g)
    stays_gone i (going s fs) a =
        weaker i (chances i s (forest_leaves fs)) 0 (turn_taken p until s fs) a (c.turn i until s fs)
    stays_gone i (closed e s fs) a = a
    stays_gone i (broken e s) a = a
    stays_gone i (amiss s) a = a

-- ---- a turn that wakes a wait

wakes_due : (n : ℕ) (s : State) (ws : List Wait) (y : Seen) → Wakes n (between s ws) y →
    (d : Due) × ((least s ws ≡ Some d) × (d.number ≡ n))
wakes_due n s ws (between t us) h = h
wakes_due n s ws (ended e t us) h = absurd h
wakes_due n s ws (broke_off e t) h = absurd h

-- what holds where the wait that is due goes on holds of the turn that wakes it
module _ (p : Program) (until n : ℕ) (s : State) (fs : Forest) (P : Stage Forest → Type 0)
    (on : (d : Due) (u : State) → u.clock.next ≡ s.clock.next → has d.number (forest_leaves fs) ≡ true → d.number ≡ n →
    P (woken p d.number d.given.value [] fs u)) where
  go : Due → State → Stage Forest
  go d u = woken p d.number d.given.value [] fs u

  spent_wakes : (d : Due) → least s (forest_leaves fs) ≡ Some d → (left : ℕ) →
      Wakes n (between s (forest_leaves fs))
      (told (spending left s (closed ending.Steps s fs) (λ u. woken p d.number d.given.value [] fs (at_moment d.given.moment u)))) →
      P (spending left s (closed ending.Steps s fs) (λ u. woken p d.number d.given.value [] fs (at_moment d.given.moment u)))
  spent_wakes d e zero h = absurd h
  spent_wakes d e (suc l) h =
      let x = wakes_due n s (forest_leaves fs) _ h in
      on d (at_moment d.given.moment (stepped l s)) refl (due_lives s (forest_leaves fs) d e)
      (ap due_number (sym e ∙ x.1.0) ∙ x.1.1)

  timely_wakes : (d : Due) → least s (forest_leaves fs) ≡ Some d → (b : Bool) →
      Wakes n (between s (forest_leaves fs)) (told (cond b (closed ending.Until s fs)
      (spending s.clock.left s (closed ending.Steps s fs) (λ u. woken p d.number d.given.value [] fs (at_moment d.given.moment u))))) →
      P (cond b (closed ending.Until s fs)
      (spending s.clock.left s (closed ending.Steps s fs) (λ u. woken p d.number d.given.value [] fs (at_moment d.given.moment u))))
  timely_wakes d e true h = absurd h
  timely_wakes d e false h = spent_wakes d e s.clock.left h

  due_wakes : (o : Option Due) → least s (forest_leaves fs) ≡ o →
      Wakes n (between s (forest_leaves fs)) (told (turn_at until o s fs (λ d u. woken p d.number d.given.value [] fs u))) →
      P (turn_at until o s fs (λ d u. woken p d.number d.given.value [] fs u))
  due_wakes None e h = absurd h
  due_wakes (Some d) e h = timely_wakes d e (nat_lt until d.given.moment) h

  waits_wake : (ws : List Wait) → forest_leaves fs ≡ ws →
      Wakes n (between s (forest_leaves fs)) (told (turn until ws s fs (λ d u. woken p d.number d.given.value [] fs u))) →
      P (turn until ws s fs (λ d u. woken p d.number d.given.value [] fs u))
  waits_wake [] e h = absurd h
  waits_wake (w ∷ ws) e h = due_wakes (least s (w ∷ ws)) (ap (least s) e) h

  pub turn_wakes : Wakes n (between s (forest_leaves fs)) (told (turn_taken p until s fs)) → P (turn_taken p until s fs)
  turn_wakes h = waits_wake (forest_leaves fs) refl h

module _ (p : Program) (until n : ℕ) where
  pub woken_gone : NumberOnce p → (g : Stage Forest) → StageChances n 1 g → Wakes n (told g) (told (one_turn p until g)) →
      StageChances n 0 (one_turn p until g)
  woken_gone c (going s fs) a h = turn_wakes p until n s fs (StageChances n 0) (λ d u next live same.
      subst (λ i. StageChances i 0 (woken p d.number d.given.value [] fs u)) same (c.goes d.number d.given.value fs u 0 live
      (subst (λ i. chances i u (forest_leaves fs) ≤ 1) (sym same)
      (subst (λ m. count n (forest_leaves fs) + cond (ltn n m) 0 1 ≤ 1) (sym next) a)))) h
  woken_gone c (closed e s fs) a h = absurd h
  woken_gone c (broken e s) a h = absurd h
  woken_gone c (amiss s) a h = absurd h

  -- what must still be live is, where the turn has not ended the run
  abbrev Others : State → Forest → Stage Forest → Type 0
  Others s fs g = (i : ℕ) → has i (forest_standing n fs) ≡ true → Wakes n (between s (forest_leaves fs)) (told g) →
      is_live i (told g) ≡ true

  others_live : (s : State) (fs : Forest) (i : ℕ) (g : Stage Forest) → StageHas i (count i (forest_standing n fs)) g →
      has i (forest_standing n fs) ≡ true → Wakes n (between s (forest_leaves fs)) (told g) → is_live i (told g) ≡ true
  others_live s fs i (going t xs) a e h = counted_live i (forest_leaves xs) (le_trans (live_counts i (forest_standing n fs) e) a)
  others_live s fs i (closed x t xs) a e h = absurd h
  others_live s fs i (broken x t) a e h = absurd h
  others_live s fs i (amiss t) a e h = absurd h

  -- the forest of a stage between two turns, and what of it stays
  pub record Before (g : Stage Forest) : Type 0 where
    pub state : State
    pub tasks : Forest
    pub there : g ≡ going state tasks
    pub others : (i : ℕ) → has i (forest_standing n tasks) ≡ true → is_live i (told (one_turn p until g)) ≡ true

  pub before : NothingLost → (g : Stage Forest) → StageWaits g → Wakes n (told g) (told (one_turn p until g)) → Before g
  before lost (going s fs) stands h = record {
    state = s;
    tasks = fs;
    there = refl;
    others = λ i e. turn_wakes p until n s fs (Others s fs) (λ d u next live same j f.
        others_live s fs j (woken p d.number d.given.value [] fs u) (subst (λ m. StageHas j (count j (forest_standing m fs))
        (woken p d.number d.given.value [] fs u)) same (lost p j d.number d.given.value fs u stands)) f) h i e h;
  }
  before lost (closed e s fs) stands h = absurd h
  before lost (broken e s) stands h = absurd h
  before lost (amiss s) stands h = absurd h
