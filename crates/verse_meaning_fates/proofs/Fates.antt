-- The number of a wait that is woken was live, and goes; of the others none comes back.
use Rattle.std.proofs.Common.{◌≡◌, ◌⊎◌, inl, inr, ℕ, zero, suc, ◌+◌, ◌-◌, ◌≤◌, List, [], ◌∷◌, Option, Some, None, Bool, true, false, cond}
use Rattle.std.proofs.Common.{nat_lt, refl, sym, subst}
use Rattle.std.proofs.Math.Path.{ap}
use Rattle.verse_value.specs.Val.{Val}
use Rattle.verse_meaning_state.specs.State.{State, Given, spending, stepped, at_moment}
use Rattle.verse_meaning_state.specs.Turns.{Stage, going, closed, broken, amiss, turn, turn_at, turns}
use Rattle.verse_meaning_state.specs.Waits.{Wait, Due, eqn, has, due_of, sooner, sooner_of, least}
use Rattle.verse_meaning.specs.Programs.{Program}
use Rattle.verse_meaning.specs.Runs.{Forest, forest_leaves, woken, turn_taken, started}
use Rattle.verse_meaning.specs.RunLaws.{count, chances, StageChances, NumbersOnce}
use Rattle.verse_meaning_fates.specs.Fates.{due_within, next_woken, is_number, chances_in, woken_by, cancelled_by}
use Rattle.verse_meaning_fates.specs.Fates.{woken_in, cancelled_in, Stands, EachHasOneFate}
use native.Mathlib.Omega.{arith}
use Rattle.verse_meaning_state.proofs.Numbers.{eqn_is, eqn_same}

-- ---- which wait is due

-- one of two, by a test
chosen : (b : Bool) (x y : Option Due) (d : Due) → cond b x y ≡ Some d → (x ≡ Some d) ⊎ (y ≡ Some d)
chosen true x y d e = inl e
chosen false x y d e = inr e

own : (n : ℕ) (g : Given) (d : Due) → Some (record { number = n; given = g }) ≡ Some d → d.number ≡ n
own n g d e = cc

sooner_is : (n : ℕ) (g : Given) (other : Option Due) (d : Due) → sooner n g other ≡ Some d → (d.number ≡ n) ⊎ (other ≡ Some d)
sooner_is n g None d e = inl (own n g d e)
sooner_is n g (Some x) d e = elim (chosen (nat_lt x.given.moment g.moment) (Some x) _ d e) [
  | inl a ↦ inr a
  | inr b ↦ elim (chosen (nat_lt g.moment x.given.moment) (Some (record { number = n; given = g })) _ d b) [
    | inl a ↦ inl (own n g d a)
    | inr f ↦ elim (chosen (nat_lt x.number n) (Some x) (Some (record { number = n; given = g })) d f) [
      | inl a ↦ inr a
      | inr a ↦ inl (own n g d a)
    ]
  ]
]

sooner_of_is : (n : ℕ) (o : Option Given) (other : Option Due) (d : Due) → sooner_of n o other ≡ Some d → (d.number ≡ n) ⊎ (other ≡ Some d)
sooner_of_is n None other d e = inr e
sooner_of_is n (Some g) other d e = sooner_is n g other d e

either_way : (b : Bool) (x : Bool) → x ≡ true → cond b true x ≡ true
either_way true x e = refl
either_way false x e = e

-- it is live
least_has : (s : State) (ws : List Wait) (d : Due) → least s ws ≡ Some d → has d.number ws ≡ true
least_has s [] d e = cc
least_has s (w ∷ ws) d e = elim (sooner_of_is w.number (due_of s w.number w.cause) (least s ws) d e) [
  | inl a ↦ subst (λ n. cond (eqn d.number n) true (has d.number ws) ≡ true) a
      (ap (λ b. cond b true (has d.number ws)) (eqn_same d.number))
  | inr b ↦ either_way (eqn d.number w.number) (has d.number ws) (least_has s ws d b)
]

has_count : (n : ℕ) (ws : List Wait) → has n ws ≡ true → 1 ≤ count n ws
has_count n [] e = cc
has_count n (w ∷ ws) e = counted (eqn n w.number) (has n ws) (count n ws) e (has_count n ws) where
  counted : (b x : Bool) (c : ℕ) → cond b true x ≡ true → (x ≡ true → 1 ≤ c) → 1 ≤ cond b 1 0 + c
  counted true x c e f = omega arith
  counted false x c e f = omega (arith, f e)

-- ---- the turn that wakes it

-- the turn wakes the wait n, which is live
pub record Wakes (p : Program) (n : ℕ) (s : State) (fs : Forest) (st : Stage Forest) : Type 0 where
  pub value : Val
  pub left : ℕ
  pub moment : ℕ
  pub is_live : has n (forest_leaves fs) ≡ true
  pub is : st ≡ woken p n value [] fs (at_moment moment (stepped left s))

module _ (p : Program) (until : ℕ) (s : State) (fs : Forest) where
  abbrev go : Due → State → Stage Forest
  go due s = woken p due.number due.given.value [] fs s

  wakes_within : (left : ℕ) (d : Due) (n : ℕ) (b : Bool) → nat_lt until d.given.moment ≡ b → has d.number (forest_leaves fs) ≡ true →
      due_within until left (Some d) ≡ Some n → (out other : Stage Forest) →
      Wakes p n s fs (cond b out (spending left s other (λ s. go d (at_moment d.given.moment s))))
  wakes_within zero d n b t h e out other = cc
  wakes_within (suc l) d n true t h e out other = cc
  wakes_within (suc l) d n false t h e out other =
      let same : d.number ≡ n = cc in
      record {
        value = d.given.value;
        left = l;
        moment = d.given.moment;
        is_live = subst (λ m. has m (forest_leaves fs) ≡ true) same h;
        is = ap (λ m. woken p m d.given.value [] fs (at_moment d.given.moment (stepped l s))) same;
      }

  wakes_at : (x : Option Due) (n : ℕ) → ((d : Due) → x ≡ Some d → has d.number (forest_leaves fs) ≡ true) →
      due_within until s.clock.left x ≡ Some n → Wakes p n s fs (turn_at until x s fs go)
  wakes_at None n h e = cc
  wakes_at (Some d) n h e = wakes_within s.clock.left d n (nat_lt until d.given.moment) refl (h d refl) e _ _

  wakes_of : (ws : List Wait) (n : ℕ) → ((d : Due) → least s ws ≡ Some d → has d.number (forest_leaves fs) ≡ true) →
      due_within until s.clock.left (least s ws) ≡ Some n → Wakes p n s fs (turn until ws s fs go)
  wakes_of [] n h e = cc
  wakes_of (w ∷ ws) n h e = wakes_at (least s (w ∷ ws)) n h e

  wakes : (n : ℕ) → next_woken until s fs ≡ Some n → Wakes p n s fs (turn_taken p until s fs)
  wakes n e = wakes_of (forest_leaves fs) n (least_has s (forest_leaves fs)) e

-- ---- what becomes of a number in a turn, and in several

is_some : (i : ℕ) (x : Option ℕ) → is_number i x ≡ true → x ≡ Some i
is_some i None e = cc
is_some i (Some n) e = ap Some (sym (eqn_is i n e))

fits_in : (i b : ℕ) (st : Stage Forest) → Stands st → StageChances i b st → chances_in i st ≤ b
fits_in i b (going s fs) t h = h
fits_in i b (closed e s fs) t h = h
fits_in i b (broken e s) t h = absurd t
fits_in i b (amiss s) t h = absurd t

module _ (numbers : NumbersOnce) (p : Program) (until i : ℕ) where
  -- of a live number that is woken
  goes : (s : State) (fs : Forest) → chances i s (forest_leaves fs) ≤ 1 → Stands (turn_taken p until s fs) →
      next_woken until s fs ≡ Some i →
      (chances i s (forest_leaves fs) ≡ 1) × (chances_in i (turn_taken p until s fs) ≡ 0)
  goes s fs h t e =
      let w = wakes p until s fs i e in
      let gone = (numbers p).goes i w.value fs (at_moment w.moment (stepped w.left s)) 0 w.is_live h in
      let few = fits_in i 0 (turn_taken p until s fs) t (subst (λ st. StageChances i 0 st) (sym w.is) gone) in
      (omega (arith, h, has_count i (forest_leaves fs) w.is_live), omega (arith, few))

  in_turn : (b : Bool) (s : State) (fs : Forest) → is_number i (next_woken until s fs) ≡ b → chances i s (forest_leaves fs) ≤ 1 →
      Stands (turn_taken p until s fs) →
      chances i s (forest_leaves fs) ≡ chances_in i (turn_taken p until s fs) + (woken_by until i s fs + cancelled_by p until i s fs)
  in_turn true s fs e h t =
      let g = goes s fs h t (is_some i (next_woken until s fs) e) in
      let one : woken_by until i s fs ≡ 1 = ap (λ b. cond b 1 0) e in
      let none : cancelled_by p until i s fs ≡ 0 =
      ap (λ b. cond b 0 (chances i s (forest_leaves fs) - chances_in i (turn_taken p until s fs))) e in
      omega (arith, g.0, g.1, one, none)
  in_turn false s fs e h t =
      let few = fits_in i (chances i s (forest_leaves fs)) (turn_taken p until s fs) t ((numbers p).turn i until s fs) in
      let none : woken_by until i s fs ≡ 0 = ap (λ b. cond b 1 0) e in
      let left : cancelled_by p until i s fs ≡ chances i s (forest_leaves fs) - chances_in i (turn_taken p until s fs) =
      ap (λ b. cond b 0 (chances i s (forest_leaves fs) - chances_in i (turn_taken p until s fs))) e in
      omega (arith, few, none, left)

  -- a turn that ends the run from within ends it
  stood : (k : ℕ) (st : Stage Forest) → Stands (turns (turn_taken p until) k st) → Stands st
  stood zero st t = t
  stood (suc k) (going s fs) t = tt
  stood (suc k) (closed e s fs) t = tt
  stood (suc k) (broken e s) t = t
  stood (suc k) (amiss s) t = t

  in_turns : (k : ℕ) (st : Stage Forest) → chances_in i st ≤ 1 → Stands (turns (turn_taken p until) k st) →
      chances_in i st ≡ chances_in i (turns (turn_taken p until) k st) + (woken_in p until i k st + cancelled_in p until i k st)
  in_turns zero st h t = omega arith
  in_turns (suc k) (going s fs) h t =
      let next = stood k (turn_taken p until s fs) t in
      let one = in_turn (is_number i (next_woken until s fs)) s fs refl h next in
      let more = in_turns k (turn_taken p until s fs) (omega (arith, one, h)) t in
      omega (arith, one, more)
  in_turns (suc k) (closed e s fs) h t = omega arith
  in_turns (suc k) (broken e s) h t = absurd t
  in_turns (suc k) (amiss s) h t = absurd t

pub fates_told : NumbersOnce → EachHasOneFate
fates_told numbers p ns steps until k i t =
    let start = started p ns steps in
    let few = fits_in i 1 start (stood numbers p until i k start t) ((numbers p).run ns i steps until 0) in
    let all = in_turns numbers p until i k start few t in
    omega (arith, few, all)
