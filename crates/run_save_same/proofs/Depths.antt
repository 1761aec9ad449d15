-- Which frames of a task began before a child of it, by numbers and by what is kept.
use Rattle.std.proofs.Common.{◌≡◌, ℕ, zero, suc, ◌≤◌, ◌<◌, length, List, [], ◌∷◌, Option, Some, None, Bool, true}
use Rattle.std.proofs.Common.{false, cond, nat_le, refl, sym}
use Rattle.std.proofs.Common.{subst, ap, ◌∙◌, arith, option_map, ◌⊎◌}
use Rattle.std.specs.Prelude.{pred, ◌&&◌, eqb, ◌≢◌}
use mathlib.Core.Logic.{inl, inr}
use Rattle.std.proofs.lemmas.Bool.Decides.{nat_tests, eqb_tells}
use Rattle.verse_base.proofs.Facts.{clash, nat_le_is}
use Rattle.task_tree.specs.Tasks.{is_child}
use Rattle.verse_meaning_state.specs.Waits.{ltn, eqn}
use Rattle.verse_meaning_state.proofs.Numbers.{eqn_is, ltn_is_not, ltn_is}
use Rattle.verse_code_machine.specs.Tasks.{Frame, Part, did, runs, Rest, asleep, group, Task}
use Rattle.run_save_shots.specs.Lists.{Each, count}
use Rattle.run_save_shots.specs.Keeping as kp
use Rattle.run_save_shots.specs.Keeping.{place_of, task_of, arm_of, arm_in, depth_of, arm_or, role_in}
use Rattle.run_save_shots.specs.Naming.{is_since, is_begun_since}
use Rattle.run_save_births.specs.Births.{births, Rising}
use Rattle.run_save_groups.specs.Arms.{ArmsBelow, RestBelow}

-- ---- how many frames began before

abbrev before : ℕ → List Frame → ℕ
before n fs = count (λ (f : Frame). ltn n f.life.born) fs

no_both : {A : Type 0} (i j : ℕ) → i < j → j ≤ i → A
no_both i j e f = absurd (omega (arith, e, f))

-- all of them, where the topmost did
all_before : (n bound : ℕ) (fs : List Frame) → Rising bound (births fs) → n < bound → before n fs ≡ length fs
all_before n bound [] r h = refl
all_before n bound (f ∷ fs) r h =
    by_test (ltn n f.life.born) refl (all_before n (suc f.life.born) fs r.1 (more n bound f.life.born h r.0))
  where
    more : (n k b : ℕ) → n < k → k ≤ b → n < suc b
    more n k b e f = omega (arith, e, f)

    no : (n k b : ℕ) → n < k → k ≤ b → b ≤ n → ⊥
    no n k b e f g = omega (arith, e, f, g)

    by_test : (b : Bool) → ltn n f.life.born ≡ b → before n fs ≡ length fs →
        cond b (suc (before n fs)) (before n fs) ≡ suc (length fs)
    by_test true e g = ap suc g
    by_test false e g = absurd (no n bound f.life.born h r.0 (ltn_is_not n f.life.born e))

few : (n : ℕ) (fs : List Frame) → before n fs ≤ length fs
few n [] = omega arith
few n (f ∷ fs) = by_test (ltn n f.life.born) (few n fs)
  where
    by_test : (b : Bool) → before n fs ≤ length fs → cond b (suc (before n fs)) (before n fs) ≤ suc (length fs)
    by_test true h = omega (arith, h)
    by_test false h = omega (arith, h)

-- of each frame: how many began before tells whether it did
abbrev Tells : (n all : ℕ) → List Frame → Type 0
Tells n all [] = Unit {0}
Tells n all (f ∷ fs) = ((n < f.life.born → suc (length fs) ≤ all) × (f.life.born ≤ n → all ≤ length fs)) × Tells n all
    fs

all_tell : (n bound all : ℕ) (fs : List Frame) → Rising bound (births fs) → n < bound → length fs ≤ all → Tells n all fs
all_tell n bound all [] r h g = tt
all_tell n bound all (f ∷ fs) r h g = (
  ((λ e. g), (λ e. absurd (no n bound f.life.born h r.0 e))),
  all_tell n (suc f.life.born) all fs r.1 (more n bound f.life.born h r.0) (less (length fs) all g),
)
  where
    more : (n k b : ℕ) → n < k → k ≤ b → n < suc b
    more n k b e f = omega (arith, e, f)

    no : (n k b : ℕ) → n < k → k ≤ b → b ≤ n → ⊥
    no n k b e f g = omega (arith, e, f, g)

    less : (i j : ℕ) → suc i ≤ j → i ≤ j
    less i j e = omega (arith, e)

tells : (n bound : ℕ) (fs : List Frame) → Rising bound (births fs) → Tells n (before n fs) fs
tells n bound [] r = tt
tells n bound (f ∷ fs) r = by_test (ltn n f.life.born) refl (tells n (suc f.life.born) fs r.1)
  where
    next : (n b : ℕ) → n < b → n < suc b
    next n b e = omega (arith, e)

    reaches : (i j : ℕ) → i ≡ j → suc j ≤ suc i
    reaches i j e = omega (arith, e)

    within : (i j : ℕ) → i ≡ j → j ≤ suc i
    within i j e = omega (arith, e)

    by_test : (b : Bool) → ltn n f.life.born ≡ b → Tells n (before n fs) fs →
        Tells n (cond b (suc (before n fs)) (before n fs)) (f ∷ fs)
    by_test true e g =
        let h = ltn_is n f.life.born e in
        let all = all_before n (suc f.life.born) fs r.1 (next n f.life.born h) in (
          ((λ i. reaches (before n fs) (length fs) all), (λ i. no_both n f.life.born h i)),
          all_tell n (suc f.life.born) (suc (before n fs)) fs r.1 (next n f.life.born h)
              (within (before n fs) (length fs) all),
        )
    by_test false e g = (((λ i. no_both n f.life.born i (ltn_is_not n f.life.born e)), (λ i. few n fs)), g)

-- ---- an arm

arm_below : (born n : ℕ) (gs : List Part) (i : ℕ) → ArmsBelow born gs → arm_of n gs ≡ Some i → n < born
arm_below born n [] i a e = absurd (cc)
arm_below born n (did v ∷ gs) i a e = later (arm_of n gs) e (λ j. arm_below born n gs j a)
  where
    later : (o : Option ℕ) → option_map suc o ≡ Some i → ((j : ℕ) → o ≡ Some j → n < born) → n < born
    later None f g = absurd (cc)
    later (Some j) f g = g j refl
arm_below born n (runs m ∷ gs) i a e = by_test (eqn n m) refl e (λ j. arm_below born n gs j a.1)
  where
    later : (o : Option ℕ) → option_map suc o ≡ Some i → ((j : ℕ) → o ≡ Some j → n < born) → n < born
    later None f g = absurd (cc)
    later (Some j) f g = g j refl

    by_test : (b : Bool) → eqn n m ≡ b → cond b (Some 0) (option_map suc (arm_of n gs)) ≡ Some i →
        ((j : ℕ) → arm_of n gs ≡ Some j → n < born) → n < born
    by_test true f g h = subst (λ k. k < born) (sym (eqn_is n m f)) a.0
    by_test false f g h = later (arm_of n gs) g h

arm_in_below : (born n : ℕ) (q : Rest) (i : ℕ) → RestBelow born q → arm_in n q ≡ Some i → n < born
arm_in_below born n (asleep w) i a e = absurd (cc)
arm_in_below born n (group k p gs) i a e = arm_below born n gs i a e

-- ---- each frame above the lowest

more_is : (i j : ℕ) → nat_le i j ≡ false → j < i
more_is i j e = grind (arith, nat_tests, e)

-- By what is kept a child has begun since a frame exactly where its number is below the birth of that, and the number
-- is below the
-- birth of the lowest.
abbrev pub Tested : (since : ℕ → Bool) (n : ℕ) → List Frame → Type 0
Tested since n [] = Unit {0}
Tested since n (f ∷ []) = n < f.life.born
Tested since n (f ∷ g ∷ fs) =
    ((since (suc (length fs)) ≡ true → n < f.life.born) × (since (suc (length fs)) ≡ false → f.life.born < n)) ×
    Tested since n (g ∷ fs)

abbrev pub lowest : List Frame → ℕ
lowest [] = 0
lowest (f ∷ []) = f.life.born
lowest (f ∷ g ∷ fs) = lowest (g ∷ fs)

-- an arm
arm_tested : (since : ℕ → Bool) (n bound : ℕ) (fs : List Frame) → ((d : ℕ) → since d ≡ true) →
    Rising bound (births fs) → n < bound → Tested since n fs
arm_tested since n bound [] s r h = tt
arm_tested since n bound (f ∷ []) s r h = further n bound f.life.born h r.0
  where
    further : (i j k : ℕ) → i < j → j ≤ k → i < k
    further i j k e f = omega (arith, e, f)
arm_tested since n bound (f ∷ g ∷ fs) s r h = (
  ((λ e. further n bound f.life.born h r.0), (λ e. clash (since (suc (length fs))) (s (suc (length fs))) e)),
  arm_tested since n (suc f.life.born) (g ∷ fs) s r.1 (next n bound f.life.born h r.0),
)
  where
    further : (i j k : ℕ) → i < j → j ≤ k → i < k
    further i j k e f = omega (arith, e, f)

    next : (i j k : ℕ) → i < j → j ≤ k → i < suc k
    next i j k e f = omega (arith, e, f)

-- a task in the background
behind_tested : (n all : ℕ) (fs : List Frame) → Tells n all fs → Each (λ b. b ≡ n → ⊥) (births fs) → n < lowest fs →
    Tested (λ d. nat_le d (pred all)) n fs
behind_tested n all [] a o h = tt
behind_tested n all (f ∷ []) a o h = h
behind_tested n all (f ∷ g ∷ fs) a o h = (
  (
    (λ e. by_order (order n f.life.born) (λ i. yes all (length fs) (nat_le_is (suc (length fs)) (pred all) e) (a.0.1 i))),
    (λ e. above n f.life.born o.0 (λ i. no all (length fs) (more_is (suc (length fs)) (pred all) e) (a.0.0 i))),
  ),
  behind_tested n all (g ∷ fs) a.1 o.1 h,
)
  where
    order : (i j : ℕ) → (i < j) ⊎ (j ≤ i)
    order i zero = inr (omega arith)
    order zero (suc j) = inl (omega arith)
    order (suc i) (suc j) = up (order i j)
      where
        up : (i < j) ⊎ (j ≤ i) → (suc i < suc j) ⊎ (suc j ≤ suc i)
        up (inl h) = inl (omega (arith, h))
        up (inr h) = inr (omega (arith, h))

    by_order : {i j : ℕ} → (i < j) ⊎ (j ≤ i) → (j ≤ i → ⊥) → i < j
    by_order (inl h) f = h
    by_order (inr h) f = absurd (f h)

    above : (i j : ℕ) → (j ≡ i → ⊥) → (i < j → ⊥) → j < i
    above i j o f = by_order (order j i) (λ h. by_case h (order i j))
      where
        same : i ≤ j → j ≤ i → j ≡ i
        same e g = omega (arith, e, g)

        by_case : i ≤ j → (i < j) ⊎ (j ≤ i) → ⊥
        by_case h (inl g) = f g
        by_case h (inr g) = o (same h g)

    yes : (all i : ℕ) → suc i ≤ pred all → all ≤ suc i → ⊥
    yes zero i e f = omega (arith, e)
    yes (suc all) i e f = omega (arith, e, f)

    no : (all i : ℕ) → pred all < suc i → suc (suc i) ≤ all → ⊥
    no zero i e f = omega (arith, f)
    no (suc all) i e f = omega (arith, e, f)

-- ---- a child of a task

eqb_same : (i : ℕ) → is_child (Some i) (Some i) ≡ true
eqb_same i = by_case (eqb_tells i i)
  where
    by_case : ((eqb i i ≡ true) × (i ≡ i)) ⊎ ((eqb i i ≡ false) × (i ≢ i)) → eqb i i ≡ true
    by_case (inl h) = h.0
    by_case (inr h) = absurd (h.1 refl)

and_is : (b d : Bool) → b ≡ true → b && d ≡ d
and_is true d e = refl
and_is false d e = absurd (cc)

tested_as : (f g : ℕ → Bool) (n : ℕ) (fs : List Frame) → ((d : ℕ) → f d ≡ g d) → Tested g n fs → Tested f n fs
tested_as f g n [] e a = tt
tested_as f g n (h ∷ []) e a = a
tested_as f g n (h ∷ k ∷ fs) e a = (
  ((λ i. a.0.0 (sym (e (suc (length fs))) ∙ i)), (λ i. a.0.1 (sym (e (suc (length fs))) ∙ i))),
  tested_as f g n (k ∷ fs) e a.1,
)

abbrev pub frames_of : Task → List Frame
frames_of y = y.thread.frame ∷ y.thread.below

abbrev pub since_of : List Task → ℕ → Task → ℕ → Bool
since_of ys at z d = is_begun_since at d (kp.task ys z)

pub child_tested : (ys : List Task) (at : ℕ) (y z : Task) → place_of z.thread.who.up ys ≡ Some at →
    task_of z.thread.who.up ys ≡ Some y → (left : ℕ) →
    Rising left (births (frames_of y)) → Each (λ b. b ≡ z.thread.who.number → ⊥) (births (frames_of y)) →
    RestBelow y.thread.frame.life.born y.rest →
    z.thread.who.number < lowest (frames_of y) → Tested (since_of ys at z) z.thread.who.number (frames_of y)
child_tested ys at y z p t left r o g h = by_arm (arm_in z.thread.who.number y.rest) refl
  where
    same : (a : Option ℕ) → arm_in z.thread.who.number y.rest ≡ a → (d : ℕ) →
        since_of ys at z d ≡ is_since d (arm_or a (depth_of z.thread.who.number y))
    same a e d = and_is (is_child (Some at) (place_of z.thread.who.up ys)) _ (ap (is_child (Some at)) p ∙ eqb_same at) ∙
        (ap (λ u. is_since d (role_in u z.thread.who.number)) t ∙
        ap (λ a. is_since d (arm_or a (depth_of z.thread.who.number y))) e)

    first : y.thread.frame.life.born ≤ y.thread.frame.life.born
    first = omega arith

    by_arm : (a : Option ℕ) → arm_in z.thread.who.number y.rest ≡ a →
        Tested (since_of ys at z) z.thread.who.number (frames_of y)
    by_arm None e = tested_as (since_of ys at z) (λ d. nat_le d (depth_of z.thread.who.number y)) z.thread.who.number
        (frames_of y) (same None e)
        (behind_tested z.thread.who.number (before z.thread.who.number (frames_of y)) (frames_of y)
        (tells z.thread.who.number left (frames_of y) r) o h)
    by_arm (Some i) e = tested_as (since_of ys at z) (λ d. true) z.thread.who.number (frames_of y) (same (Some i) e)
        (arm_tested (λ d. true)
        z.thread.who.number y.thread.frame.life.born (frames_of y) (λ d. refl) (first, r.1)
        (arm_in_below y.thread.frame.life.born z.thread.who.number y.rest i
        g e))
