-- The tasks that are kept: each unfinished arm is one, and siblings stand in their order.
use Rattle.std.proofs.Common.{◌≡◌, ℕ, zero, suc, ◌+◌, ◌≤◌, ◌<◌, map, List, [], ◌∷◌, ◌++◌, Option, Some, None, Bool, true, false, cond, refl}
use Rattle.std.proofs.Common.{sym, subst, ap, ◌∙◌, arith, option_map, ◌⊎◌}
use Rattle.std.specs.Prelude.{pred, ◌&&◌, ◌==◌, eqb, ◌≢◌}
use mathlib.Core.Logic.{inl, inr}
use Rattle.std.proofs.lemmas.Bool.Decides.{eqb_tells}
use Rattle.std.proofs.lemmas.Bool.{cases_Bool}
use Rattle.std.proofs.lemmas.Option.{same_Some}
use Rattle.verse_base.proofs.Facts.{clash, none_of_next, place_of_next}
use Rattle.task_tree.specs.Tasks.{is_child}
use Rattle.verse_meaning_state.specs.Waits.{nth, eqn, ltn}
use Rattle.verse_meaning_state.proofs.Numbers.{eqn_is, eqn_same, nth_map}
use Rattle.verse_code_machine.specs.Tasks.{Frame, root, part, Part, did, runs, Rest, asleep, group, Task, same_path}
use Rattle.verse_code_machine.specs.Ends.{is_run}
use Rattle.verse_code_machine.proofs.Paths.{same_is, same_self}
use Rattle.verse_code_machine_parents.proofs.Lists.{no_both}
use Rattle.run_save_shots.specs.Lists.{Each, EachAt, EachTwo, count}
use Rattle.run_save_shots.specs.Kept.{KeptFrame, KeptRest, KeptTask}
use Rattle.run_save_shots.specs.Fitting as fit
use Rattle.run_save_shots.specs.Fitting.{is_arm_of, unfinished, ArmsRun, MayFollow, InOrder}
use Rattle.run_save_shots.specs.Keeping as kp
use Rattle.run_save_shots.specs.Keeping.{place_of, task_of, arm_of, arm_in, depth_of, arm_or, role_in}
use Rattle.run_save_shots.proofs.Lists.{all_as, each_both}
use Rattle.run_save_fits.specs.Held.{IsSome, RoleIs, tasks_sum, one}
use Rattle.run_save_fits.proofs.Holding.{role_some}
use Rattle.run_save_fits.proofs.Counted.{ltn_less}
use Rattle.run_save_kept.specs.Orders.{is_named, runs_in, arms_of, in_group, awaits, skips, weight}
use Rattle.run_save_kept.proofs.Paths.{is_same, not_same, end_is, root_no_part}
use Rattle.run_save_kept.proofs.Siblings.{Older, Named, part_path}
use Rattle.run_save_kept.proofs.Sums.{sums_add}

-- ---- lists

none_some : {A B : Type 0} {x : A} → None ≡ Some x → B
none_some e = cc

suc_not : {A : Type 0} (o : Option ℕ) → option_map suc o ≡ Some 0 → A
suc_not None e = none_some e
suc_not (Some j) e = absurd (no j (same_Some _ _ e))
  where
    no : (j : ℕ) → suc j ≡ 0 → ⊥
    no j e = omega (arith, e)

each_at : {A : Type 0} (P : ℕ → A → Type 0) (n : ℕ) (xs : List A) → ((i : ℕ) (x : A) → nth xs i ≡ Some x → P (n + i) x) → EachAt P n xs
each_at P n [] f = tt
each_at P n (x ∷ xs) f = (
  subst (λ i. P i x) (zeroes n) (f 0 x refl),
  each_at P (suc n) xs (λ i y e. subst (λ j. P j y) (sums n i) (f (suc i) y e)),
)
  where
    zeroes : (n : ℕ) → n + 0 ≡ n
    zeroes n = omega arith

    sums : (n i : ℕ) → n + suc i ≡ suc n + i
    sums n i = omega arith

of_map : {A B : Type 0} (f : A → B) (xs : List A) (i : ℕ) (y : B) → nth (map f xs) i ≡ Some y → (x : A) × (nth xs i ≡ Some x) × (y ≡ f x)
of_map f [] i y e = none_some e
of_map f (x ∷ xs) zero y e = (x, refl, sym (same_Some _ _ e))
of_map f (x ∷ xs) (suc i) y e = of_map f xs i y e

-- each of a list weighs no more than all
members : (xs : List Task) → Each (λ t. (f : Task → ℕ) → f t ≤ tasks_sum f xs) xs
members [] = tt
members (x ∷ xs) = (
  (λ f. first (f x) (tasks_sum f xs)),
  all_as (λ t. (f : Task → ℕ) → f t ≤ tasks_sum f xs) (λ t. (f : Task → ℕ) → f t ≤ f x + tasks_sum f xs)
      (λ t h f. second (f t) (f x) (tasks_sum f xs) (h
      f)) xs (members xs),
)
  where
    first : (i j : ℕ) → i ≤ i + j
    first i j = omega arith

    second : (i j k : ℕ) → i ≤ k → i ≤ j + k
    second i j k e = omega (arith, e)

pub member_at : (P : Task → Type 0) (xs : List Task) (i : ℕ) (t : Task) → Each P xs → nth xs i ≡ Some t → P t
member_at P [] i t a e = none_some e
member_at P (x ∷ xs) zero t a e = subst P (same_Some _ _ e) a.0
member_at P (x ∷ xs) (suc i) t a e = member_at P xs i t a.1 e

two_as : (M : Task → Type 0) (R S : Task → Task → Type 0) → ((t u : Task) → M t → M u → R t u → S t u) → (xs : List Task) → Each M xs →
    EachTwo R xs → EachTwo S xs
two_as M R S f [] a b = tt
two_as M R S f (x ∷ xs) a b = (row xs a.1 b.0, two_as M R S f xs a.1 b.1)
  where
    row : (us : List Task) → Each M us → Each (R x) us → Each (S x) us
    row [] d e = tt
    row (u ∷ us) d e = (f x u a.0 d.0 e.0, row us d.1 e.1)

two_map : {A B : Type 0} (S : B → B → Type 0) (f : A → B) (xs : List A) → EachTwo (λ t u. S (f t) (f u)) xs → EachTwo S (map f xs)
two_map S f [] a = tt
two_map S f (x ∷ xs) a = (row xs a.0, two_map S f xs a.1)
  where
    row : (us : _) → Each (λ u. S (f x) (f u)) us → Each (S (f x)) (map f us)
    row [] d = tt
    row (u ∷ us) d = (d.0, row us d.1)

-- ---- the task of a path

-- it stands there, and is the first of its path
pub placed : (q : List ℕ) (ys : List Task) (i : ℕ) → place_of q ys ≡ Some i → (y : Task) × (nth ys i ≡ Some y) × (q ≡ y.thread.who.path) ×
    (task_of q ys ≡ Some y)
placed q [] i e = none_some e
placed q (x ∷ xs) i e = by_test (same_path q x.thread.who.path) refl i e (λ j. placed q xs j)
  where
    by_test : (b : Bool) → same_path q x.thread.who.path ≡ b → (i : ℕ) → cond b (Some 0) (option_map suc (place_of q xs)) ≡ Some i →
        ((j : ℕ) → place_of q xs ≡ Some j → (y : Task) × (nth xs j ≡ Some y) × (q ≡ y.thread.who.path) × (task_of q xs ≡ Some y)) →
        (y : Task) × (nth (x ∷ xs) i ≡ Some y) × (q ≡ y.thread.who.path) × (cond b (Some x) (task_of q xs) ≡ Some y)
    by_test true f zero g h = (x, refl, same_is q x.thread.who.path f, refl)
    by_test true f (suc i) g h = absurd (no i (same_Some _ _ g))
      where
        no : (i : ℕ) → 0 ≡ suc i → ⊥
        no i e = omega (arith, e)
    by_test false f zero g h = suc_not (place_of q xs) g
    by_test false f (suc i) g h = h i (place_of_next (place_of q xs) i g)

-- where no two tasks have one path each is found by its own
pub found : (q : List ℕ) (ys : List Task) (i : ℕ) (y : Task) → nth ys i ≡ Some y → q ≡ y.thread.who.path → tasks_sum (is_named q) ys ≤ 1 →
    place_of q ys ≡ Some i
found q [] i y e f h = none_some e
found q (x ∷ xs) zero y e f h = ap (λ b. cond b (Some 0) (option_map suc (place_of q xs)))
    (is_same q x.thread.who.path (subst (λ (t : Task). q ≡ t.thread.who.path) (sym (same_Some _ _ e)) f))
found q (x ∷ xs) (suc i) y e f h = by_test (same_path q x.thread.who.path) refl (found q xs i y e f)
  where
    there : 1 ≤ tasks_sum (is_named q) xs
    there = let g = member_at (λ t. (f : Task → ℕ) → f t ≤ tasks_sum f xs) xs i y (members xs) e (is_named q) in let j =
        ap one (is_same q y.thread.who.path f)
        in omega (arith, g, j)

    no : (i j : ℕ) → i + j ≤ 1 → i ≡ 1 → 1 ≤ j → ⊥
    no i j e f g = omega (arith, e, f, g)

    by_test : (b : Bool) → same_path q x.thread.who.path ≡ b → (tasks_sum (is_named q) xs ≤ 1 → place_of q xs ≡ Some i) →
        cond b (Some 0) (option_map suc (place_of q xs)) ≡ Some (suc i)
    by_test true g k = absurd (no (one (same_path q x.thread.who.path)) (tasks_sum (is_named q) xs) h (ap one g) there)
    by_test false g k = ap (option_map suc) (k (less (one (same_path q x.thread.who.path)) (tasks_sum (is_named q) xs) h))
      where
        less : (i j : ℕ) → i + j ≤ 1 → j ≤ 1
        less i j e = omega (arith, e)

-- ---- the place of an arm

pub arm_is : (n : ℕ) (gs : List Part) (i : ℕ) → arm_of n gs ≡ Some i → nth gs i ≡ Some (runs n)
arm_is n [] i e = none_some e
arm_is n (did v ∷ gs) zero e = suc_not (arm_of n gs) e
arm_is n (did v ∷ gs) (suc i) e = arm_is n gs i (place_of_next (arm_of n gs) i e)
arm_is n (runs j ∷ gs) i e = by_test (eqn n j) refl i e (λ i. arm_is n gs i)
  where
    by_test : (b : Bool) → eqn n j ≡ b → (i : ℕ) → cond b (Some 0) (option_map suc (arm_of n gs)) ≡ Some i →
        ((i : ℕ) → arm_of n gs ≡ Some i → nth gs i ≡ Some (runs n)) → nth (runs j ∷ gs) i ≡ Some (runs n)
    by_test true f zero g h = ap (λ k. Some (runs k)) (sym (eqn_is n j f))
    by_test true f (suc i) g h = absurd (no i (same_Some _ _ g))
      where
        no : (i : ℕ) → 0 ≡ suc i → ⊥
        no i e = omega (arith, e)
    by_test false f zero g h = suc_not (arm_of n gs) g
    by_test false f (suc i) g h = h i (place_of_next (arm_of n gs) i g)

runs_there : (n : ℕ) (gs : List Part) (i : ℕ) → nth gs i ≡ Some (runs n) → 1 ≤ runs_in n gs
runs_there n [] i e = none_some e
runs_there n (did v ∷ gs) zero e = absurd (no (same_Some _ _ e))
  where
    no : did v ≡ runs n → ⊥
    no e = cc
runs_there n (did v ∷ gs) (suc i) e = runs_there n gs i e
runs_there n (runs j ∷ gs) zero e = let f = ap one (subst (λ k. eqn n k ≡ true) (same (sym (same_Some _ _ e))) (eqn_same n)) in
    omega (arith, f)
  where
    same : {i j : ℕ} → runs i ≡ runs j → i ≡ j
    same e = cc
runs_there n (runs j ∷ gs) (suc i) e = let f = runs_there n gs i e in omega (arith, f)

is_arm : (n : ℕ) (gs : List Part) (i : ℕ) → nth gs i ≡ Some (runs n) → runs_in n gs ≤ 1 → arm_of n gs ≡ Some i
is_arm n [] i e h = none_some e
is_arm n (did v ∷ gs) zero e h = absurd (no (same_Some _ _ e))
  where
    no : did v ≡ runs n → ⊥
    no e = cc
is_arm n (did v ∷ gs) (suc i) e h = ap (option_map suc) (is_arm n gs i e h)
is_arm n (runs j ∷ gs) zero e h = ap (λ b. cond b (Some 0) (option_map suc (arm_of n gs)))
    (subst (λ k. eqn n k ≡ true) (same (sym (same_Some _ _ e))) (eqn_same n))
  where
    same : {i j : ℕ} → runs i ≡ runs j → i ≡ j
    same e = cc
is_arm n (runs j ∷ gs) (suc i) e h = by_test (eqn n j) refl (is_arm n gs i e)
  where
    no : (i j : ℕ) → i + j ≤ 1 → i ≡ 1 → 1 ≤ j → ⊥
    no i j e f g = omega (arith, e, f, g)

    less : (i j : ℕ) → i + j ≤ 1 → j ≤ 1
    less i j e = omega (arith, e)

    by_test : (b : Bool) → eqn n j ≡ b → (runs_in n gs ≤ 1 → arm_of n gs ≡ Some i) →
        cond b (Some 0) (option_map suc (arm_of n gs)) ≡ Some (suc i)
    by_test true g k = absurd (no (one (eqn n j)) (runs_in n gs) h (ap one g) (runs_there n gs i e))
    by_test false g k = ap (option_map suc) (k (less (one (eqn n j)) (runs_in n gs) h))

-- it runs exactly where it has a place
arm_runs : (n : ℕ) (gs : List Part) (i : ℕ) → arm_of n gs ≡ Some i → is_run n gs ≡ true
arm_runs n [] i e = none_some e
arm_runs n (did v ∷ gs) zero e = suc_not (arm_of n gs) e
arm_runs n (did v ∷ gs) (suc i) e = arm_runs n gs i (place_of_next (arm_of n gs) i e)
arm_runs n (runs j ∷ gs) i e = by_test (eqn n j) i e (λ i. arm_runs n gs i)
  where
    by_test : (b : Bool) (i : ℕ) → cond b (Some 0) (option_map suc (arm_of n gs)) ≡ Some i →
        ((i : ℕ) → arm_of n gs ≡ Some i → is_run n gs ≡ true) → cond b true (is_run n gs) ≡ true
    by_test true i g h = refl
    by_test false zero g h = suc_not (arm_of n gs) g
    by_test false (suc i) g h = h i (place_of_next (arm_of n gs) i g)

no_arm : (n : ℕ) (gs : List Part) → arm_of n gs ≡ None → is_run n gs ≡ false
no_arm n [] e = refl
no_arm n (did v ∷ gs) e = no_arm n gs (none_of_next (arm_of n gs) e)
no_arm n (runs j ∷ gs) e = by_test (eqn n j) e (no_arm n gs)
  where
    by_test : (b : Bool) → cond b (Some 0) (option_map suc (arm_of n gs)) ≡ None → (arm_of n gs ≡ None → is_run n gs ≡ false) →
        cond b true (is_run n gs) ≡ false
    by_test true g h = none_some (sym g)
    by_test false g h = h (none_of_next (arm_of n gs) g)

-- ---- tests

and_off : (b d : Bool) → b ≡ false → b && d ≡ false
and_off true d e = no_both e
and_off false d e = refl

eqb_is : (i j : ℕ) → eqb i j ≡ true → i ≡ j
eqb_is i j e = by_case (eqb_tells i j)
  where
    by_case : ((eqb i j ≡ true) × (i ≡ j)) ⊎ ((eqb i j ≡ false) × (i ≢ j)) → i ≡ j
    by_case (inl h) = h.1
    by_case (inr h) = clash (eqb i j) e h.0

eqb_same : (i : ℕ) → eqb i i ≡ true
eqb_same i = by_case (eqb_tells i i)
  where
    by_case : ((eqb i i ≡ true) × (i ≡ i)) ⊎ ((eqb i i ≡ false) × (i ≢ i)) → eqb i i ≡ true
    by_case (inl h) = h.0
    by_case (inr h) = absurd (h.1 refl)

abbrev matches : Option ℕ → ℕ → Bool
matches None place = false
matches (Some q) place = q == place

matches_is : (o : Option ℕ) (place : ℕ) → matches o place ≡ true → o ≡ Some place
matches_is None place e = no_both (sym e)
matches_is (Some q) place e = ap Some (eqb_is q place e)

role_test : (i place : ℕ) (entry q : Option ℕ) (d : ℕ) (fs : List KeptFrame) (rest : KeptRest) →
    is_arm_of i place (record { parent = Some i; role = arm_or q d; root = entry; frames = fs; rest = rest }) ≡ matches q place
role_test i place entry None d fs rest = ap (λ b. b && false) (eqb_same i)
role_test i place entry (Some j) d fs rest = ap (λ b. b && (j == place)) (eqb_same i)

child_is : (i : ℕ) (o : Option ℕ) → is_child (Some i) o ≡ true → o ≡ Some i
child_is i None e = no_both (sym e)
child_is i (Some j) e = ap Some (sym (eqb_is i j e))

-- ---- depths

count_less : (l k : ℕ) (fs : List Frame) → l ≤ k → count (λ (f : Frame). ltn k f.life.born) fs ≤ count (λ (f : Frame). ltn l f.life.born) fs
count_less l k [] h = omega arith
count_less l k (f ∷ fs) h = let g = count_less l k fs h in by_test (ltn k f.life.born) (ltn l f.life.born) (ltn_less l k f.life.born h)
    (count (λ (f :
    Frame). ltn k f.life.born) fs) (count (λ (f : Frame). ltn l f.life.born) fs) g
  where
    by_test : (b d : Bool) → one b ≤ one d → (i j : ℕ) → i ≤ j → cond b (suc i) i ≤ cond d (suc j) j
    by_test true true e i j g = omega (arith, g)
    by_test true false e i j g = omega (arith, e)
    by_test false true e i j g = omega (arith, g)
    by_test false false e i j g = g

pred_less : (i j : ℕ) → i ≤ j → pred i ≤ pred j
pred_less zero j h = omega arith
pred_less (suc i) zero h = omega (arith, h)
pred_less (suc i) (suc j) h = omega (arith, h)

depth_less : (l k : ℕ) (y : Task) → l ≤ k → depth_of k y ≤ depth_of l y
depth_less l k y h = pred_less _ _ (count_less l k (y.thread.frame ∷ y.thread.below) h)

module _ (ys : List Task) (names : Each Named ys) (unique : (p : List ℕ) → tasks_sum (is_named p) ys ≤ 1) where
  own_path : (y : Task) → Named y → IsSome y.thread.who.path
  own_path y a = role_some y.thread.who.role y.thread.who a

  same_task : (i : ℕ) (y z : Task) → nth ys i ≡ Some y → nth ys i ≡ Some z → z ≡ y
  same_task i y z e f = same_Some _ _ (sym f ∙ e)

  module _ (i : ℕ) (y : Task) (at : nth ys i ≡ Some y) (place : ℕ) where
    is_the_arm : Task → Bool
    is_the_arm z = is_arm_of i place (kp.task ys z)

    other_child : (z : Task) → is_child (Some i) (place_of z.thread.who.up ys) ≡ false → is_arm_of i place (kp.task ys z) ≡ false
    other_child z e = and_off _ _ e

    its_child : (z : Task) → place_of z.thread.who.up ys ≡ Some i → (z.thread.who.up ≡ y.thread.who.path) ×
        (is_arm_of i place (kp.task ys z) ≡ matches (arm_in z.thread.who.number y.rest) place)
    its_child z e = let h = placed z.thread.who.up ys i e in (
      h.2 ∙ ap (λ (t : Task). t.thread.who.path) (same_task i y h.0 at h.1),
      ap (λ o. is_arm_of i place (record {
        parent = o;
        role = role_in (task_of z.thread.who.up ys) z.thread.who.number;
        root = (kp.task ys z).root;
        frames = (kp.task ys z).frames;
        rest = (kp.task ys z).rest;
      })) e ∙ (ap (λ o. is_arm_of i place (record {
        parent = Some i;
        role = role_in o z.thread.who.number;
        root = (kp.task ys z).root;
        frames = (kp.task ys z).frames;
        rest = (kp.task ys z).rest;
      })) (h.3 ∙ ap Some (same_task i y h.0 at h.1)) ∙
          role_test i place (kp.task ys z).root (arm_in z.thread.who.number y.rest) (depth_of z.thread.who.number y)
          (kp.task ys z).frames (kp.task ys z).rest),
    )

    tally : (g : Task → ℕ) (zs : List Task) → Each (λ z. one (is_arm_of i place (kp.task ys z)) ≡ g z) zs →
        count (is_arm_of i place) (map (kp.task ys) zs) ≡ tasks_sum g zs
    tally g [] a = refl
    tally g (z ∷ zs) a = by_test (is_arm_of i place (kp.task ys z)) (g z) (tasks_sum g zs) a.0 (tally g zs a.1)
      where
        by_test : (b : Bool) (m k : ℕ) → one b ≡ m → count (is_arm_of i place) (map (kp.task ys) zs) ≡ k →
            cond b (suc (count (is_arm_of i place) (map (kp.task ys) zs))) (count (is_arm_of i place) (map (kp.task ys) zs)) ≡ m + k
        by_test true m k e f = omega (arith, e, f)
        by_test false m k e f = omega (arith, e, f)

    nothing : (zs : List Task) → tasks_sum (λ z. 0) zs ≡ 0
    nothing [] = refl
    nothing (z ∷ zs) = let h = nothing zs in omega (arith, h)

    no_child : ((n : ℕ) → matches (arm_in n y.rest) place ≡ false) → count (is_arm_of i place) (map (kp.task ys) ys) ≡ 0
    no_child f = tally (λ z. 0) ys (each ys) ∙ nothing ys
      where
        by_test : (z : Task) → (is_child (Some i) (place_of z.thread.who.up ys) ≡ true) ⊎
            (is_child (Some i) (place_of z.thread.who.up ys) ≡ false) → one (is_arm_of i place (kp.task ys z)) ≡ 0
        by_test z (inl e) = ap one ((its_child z (child_is i (place_of z.thread.who.up ys) e)).1 ∙ f z.thread.who.number)
        by_test z (inr e) = ap one (other_child z e)

        each : (zs : List Task) → Each (λ z. one (is_arm_of i place (kp.task ys z)) ≡ 0) zs
        each [] = tt
        each (z ∷ zs) = (by_test z (cases_Bool (is_child (Some i) (place_of z.thread.who.up ys))), each zs)

    -- the arm that runs there is the task of its number
    one_child : (gs : List Part) (n : ℕ) → ((m : ℕ) → arm_in m y.rest ≡ arm_of m gs) → nth gs place ≡ Some (runs n) → runs_in n gs ≤ 1 →
        Named y → count (is_arm_of i place) (map (kp.task ys) ys) ≡ tasks_sum (is_named (y.thread.who.path ++ n ∷ [])) ys
    one_child gs n same_arm e few own = tally (is_named (y.thread.who.path ++ n ∷ [])) ys (each ys names)
      where
        by_number : (z : Task) → z.thread.who.path ≡ y.thread.who.path ++ z.thread.who.number ∷ [] → (eqn n z.thread.who.number ≡ true) ⊎
            (eqn n z.thread.who.number ≡ false) → one (matches (arm_in z.thread.who.number y.rest) place) ≡
            is_named (y.thread.who.path ++ n ∷ []) z
        by_number z p (inl f) = let g = eqn_is n z.thread.who.number f in
            ap one (ap (λ o. matches o place) (same_arm z.thread.who.number ∙ (ap (λ m. arm_of m gs) (sym g) ∙ is_arm n gs place e few)) ∙
            eqb_same place) ∙ sym (ap one (is_same (y.thread.who.path ++ n ∷ []) z.thread.who.path
            (ap (λ m. y.thread.who.path ++ m ∷ []) g ∙ sym p)))
        by_number z p (inr f) = ap one (off (cases_Bool (matches (arm_in z.thread.who.number y.rest) place))) ∙
            sym (ap one (not_same (y.thread.who.path ++ n ∷ []) z.thread.who.path
            (λ h. clash (eqn n z.thread.who.number) (differ (end_is y.thread.who.path y.thread.who.path n z.thread.who.number (h ∙ p)).1)
            f)))
          where
            differ : n ≡ z.thread.who.number → eqn n z.thread.who.number ≡ true
            differ h = subst (λ m. eqn n m ≡ true) h (eqn_same n)

            runs_as : {j k : ℕ} → Some (runs j) ≡ Some (runs k) → j ≡ k
            runs_as h = cc

            off : (matches (arm_in z.thread.who.number y.rest) place ≡ true) ⊎ (matches (arm_in z.thread.who.number y.rest) place ≡ false) →
                matches (arm_in z.thread.who.number y.rest) place ≡ false
            off (inl h) = clash (eqn n z.thread.who.number)
                (differ (runs_as (sym e ∙ arm_is z.thread.who.number gs place
                (sym (same_arm z.thread.who.number) ∙ matches_is (arm_in z.thread.who.number y.rest) place h)))) f
            off (inr h) = h

        none_named : (z : Task) → Named z → (place_of z.thread.who.up ys ≡ Some i → ⊥) → is_named (y.thread.who.path ++ n ∷ []) z ≡ 0
        none_named z a away = ap one (not_same (y.thread.who.path ++ n ∷ []) z.thread.who.path (λ h. by_role z.thread.who.role a h))
          where
            by_role : (q : _) → RoleIs q z.thread.who → y.thread.who.path ++ n ∷ [] ≡ z.thread.who.path → ⊥
            by_role (root entry) b h = root_no_part y.thread.who.path n z.thread.who.number (own_path y own) (h ∙ b.1)
            by_role part b h = away (found z.thread.who.up ys i y at
                (sym (end_is y.thread.who.path z.thread.who.up n z.thread.who.number (h ∙ b.0)).0) (unique z.thread.who.up))

        by_test : (z : Task) → Named z → (is_child (Some i) (place_of z.thread.who.up ys) ≡ true) ⊎
            (is_child (Some i) (place_of z.thread.who.up ys) ≡ false) →
            one (is_arm_of i place (kp.task ys z)) ≡ is_named (y.thread.who.path ++ n ∷ []) z
        by_test z a (inl f) = let h = its_child z (child_is i (place_of z.thread.who.up ys) f) in
            ap one h.1 ∙ by_number z (part_path z.thread.who.role z.thread.who a (subst IsSome (sym h.0) (own_path y own)) ∙ ap (λ up. up ++
            z.thread.who.number ∷ []) h.0) (cases_Bool (eqn n z.thread.who.number))
        by_test z a (inr f) = ap one (other_child z f) ∙
            sym (none_named z a (λ h. clash (is_child (Some i) (place_of z.thread.who.up ys)) (ap (is_child (Some i)) h ∙ eqb_same i) f))

        each : (zs : List Task) → Each Named zs → Each
            (λ z. one (is_arm_of i place (kp.task ys z)) ≡ is_named (y.thread.who.path ++ n ∷ []) z) zs
        each [] a = tt
        each (z ∷ zs) a = (by_test z a.0 (cases_Bool (is_child (Some i) (place_of z.thread.who.up ys))), each zs a.1)

  module _ (there : (a : List ℕ) → IsSome a → (n : ℕ) → tasks_sum (awaits a n) ys ≤ tasks_sum (is_named (a ++ n ∷ [])) ys) where
    arms_run : (i : ℕ) (y : Task) → nth ys i ≡ Some y → (place : ℕ) → (q : Rest) → y.rest ≡ q →
        count (is_arm_of i place) (map (kp.task ys) ys) ≡ unfinished (nth (fit.arms_of (kp.rest q)) place)
    arms_run i y at place (asleep w) e = no_child i y at place (λ n. ap (λ q. matches (arm_in n q) place) e)
    arms_run i y at place (group k p gs) e = by_part (nth gs place) refl ∙ ap unfinished (sym (nth_map kp.arm gs place))
      where
        own : Named y
        own = member_at Named ys i y names at

        same_arm : (m : ℕ) → arm_in m y.rest ≡ arm_of m gs
        same_arm m = ap (arm_in m) e

        asks : (n : ℕ) → runs_in n gs ≤ tasks_sum (awaits y.thread.who.path n) ys
        asks n = let h = member_at (λ t. (f : Task → ℕ) → f t ≤ tasks_sum f ys) ys i y (members ys) at (awaits y.thread.who.path n) in
            subst (λ j. j ≤ tasks_sum (awaits y.thread.who.path n) ys)
            (ap (in_group (arms_of y.thread.who.path n) y.thread.who.path) e ∙
            ap (λ b. cond b (runs_in n gs) 0) (same_self y.thread.who.path)) h

        no_arm_there : (n : ℕ) → (nth gs place ≡ Some (runs n) → ⊥) → matches (arm_in n y.rest) place ≡ false
        no_arm_there n away = by_test (cases_Bool (matches (arm_in n y.rest) place))
          where
            by_test : (matches (arm_in n y.rest) place ≡ true) ⊎ (matches (arm_in n y.rest) place ≡ false) →
                matches (arm_in n y.rest) place ≡ false
            by_test (inl h) = absurd (away (arm_is n gs place (sym (same_arm n) ∙ matches_is (arm_in n y.rest) place h)))
            by_test (inr h) = h

        one_of : (i j k : ℕ) → 1 ≤ i → i ≤ j → j ≤ k → k ≤ 1 → k ≡ 1
        one_of i j k e f g h = omega (arith, e, f, g, h)

        most : (i j k : ℕ) → i ≤ j → j ≤ k → k ≤ 1 → i ≤ 1
        most i j k e f g = omega (arith, e, f, g)

        by_part : (o : Option Part) → nth gs place ≡ o → count (is_arm_of i place) (map (kp.task ys) ys) ≡ unfinished (option_map kp.arm o)
        by_part None f = no_child i y at place (λ n. no_arm_there n (λ h. never (sym f ∙ h)))
          where
            never : {n : ℕ} → None ≡ Some (runs n) → ⊥
            never h = cc
        by_part (Some (did v)) f = no_child i y at place (λ n. no_arm_there n (λ h. never (sym f ∙ h)))
          where
            never : {n : ℕ} → Some (did v) ≡ Some (runs n) → ⊥
            never h = cc
        by_part (Some (runs n)) f =
            one_child i y at place gs n same_arm f (most (runs_in n gs) (tasks_sum (awaits y.thread.who.path n) ys)
            (tasks_sum (is_named (y.thread.who.path ++ n ∷ [])) ys) (asks n) (there y.thread.who.path (own_path y own) n)
            (unique (y.thread.who.path ++ n ∷ []))) own ∙
            one_of (runs_in n gs) (tasks_sum (awaits y.thread.who.path n) ys) (tasks_sum (is_named (y.thread.who.path ++ n ∷ [])) ys)
            (runs_there n gs place f) (asks n) (there y.thread.who.path (own_path y own) n) (unique (y.thread.who.path ++ n ∷ []))

    pub arms_fit : EachAt (ArmsRun (map (kp.task ys) ys)) 0 (map (kp.task ys) ys)
    arms_fit = each_at (ArmsRun (map (kp.task ys) ys)) 0 (map (kp.task ys) ys) (λ i x e. let h = of_map (kp.task ys) ys i x e in
        subst (λ (t : KeptTask). ArmsRun (map (kp.task ys) ys) (0 + i) t) (sym h.2)
        (subst (λ j. ArmsRun (map (kp.task ys) ys) j (kp.task ys h.0)) (none i) (λ place. arms_run i h.0 h.1 place h.0.rest refl)))
      where
        none : (i : ℕ) → i ≡ 0 + i
        none i = omega arith

  -- ---- the order of siblings

  module _ (later : (a : List ℕ) → IsSome a → (n k : ℕ) → n ≤ k →
      tasks_sum (weight (λ path. one (same_path (a ++ n ∷ []) path)) (skips a n k)) ys ≤ 1) where
    abbrev Member : Task → Type 0
    Member t = Named t × ((f : Task → ℕ) → f t ≤ tasks_sum f ys)

    -- an arm has no younger sibling in the background
    no_younger : (y u : Task) (gs : List Part) (n m : ℕ) → Member y → Member u →
        in_group (skips y.thread.who.path n m) y.thread.who.path y.rest ≡ skips y.thread.who.path n m y.thread.who.path gs →
        u.thread.who.path ≡ y.thread.who.path ++ n ∷ [] → n < m → is_run m gs ≡ true → is_run n gs ≡ false → ⊥
    no_younger y u gs n m a b e p h f g =
        let i = a.1 (λ t. in_group (skips y.thread.who.path n m) t.thread.who.path t.rest) in
        let j = b.1 (is_named (y.thread.who.path ++ n ∷ [])) in
        let q = ap one (is_same (y.thread.who.path ++ n ∷ []) u.thread.who.path (sym p)) in
        let z = later y.thread.who.path (own_path y a.0) n m (less n m h) in
        let s = sums_add (λ t. in_group (skips y.thread.who.path n m) t.thread.who.path t.rest) (is_named (y.thread.who.path ++ n ∷ []))
        ys in
        two (tasks_sum (λ t. in_group (skips y.thread.who.path n m) t.thread.who.path t.rest) ys)
        (tasks_sum (is_named (y.thread.who.path ++ n ∷ [])) ys)
        (tasks_sum (weight (λ path. one (same_path (y.thread.who.path ++ n ∷ []) path)) (skips y.thread.who.path n m)) ys) _ _ s i
        (e ∙ skip) j q z
      where
        less : (i j : ℕ) → i < j → i ≤ j
        less i j h = omega (arith, h)

        skip : skips y.thread.who.path n m y.thread.who.path gs ≡ 1
        skip = ap (λ b. cond b (cond (is_run m gs) (cond (is_run n gs) 0 1) 0) 0) (same_self y.thread.who.path) ∙
            (ap (λ b. cond b (cond (is_run n gs) 0 1) 0) f ∙ ap (λ b. cond b 0 1) g)

        two : (x y all i j : ℕ) → all ≡ x + y → i ≤ x → i ≡ 1 → j ≤ y → j ≡ 1 → all ≤ 1 → ⊥
        two x y all i j e f g h k l = omega (arith, e, f, g, h, k, l)

    may_follow : (y t u : Task) → Member y → Member u → u.thread.who.path ≡ y.thread.who.path ++ u.thread.who.number ∷ [] →
        u.thread.who.number < t.thread.who.number → (q : Rest) → y.rest ≡ q → (o p : Option ℕ) → arm_in t.thread.who.number q ≡ o →
        arm_in u.thread.who.number q ≡ p → MayFollow (arm_or o (depth_of t.thread.who.number y)) (arm_or p (depth_of u.thread.who.number y))
    may_follow y t u a b e h q r None None f g =
        depth_less u.thread.who.number t.thread.who.number y (less u.thread.who.number t.thread.who.number h)
      where
        less : (i j : ℕ) → i < j → i ≤ j
        less i j h = omega (arith, h)
    may_follow y t u a b e h q r None (Some j) f g = tt
    may_follow y t u a b e h q r (Some i) (Some j) f g = tt
    may_follow y t u a b e h (asleep w) r (Some i) None f g = none_some f
    may_follow y t u a b e h (group k p gs) r (Some i) None f g =
        no_younger y u gs u.thread.who.number t.thread.who.number a b
        (ap (in_group (skips y.thread.who.path u.thread.who.number t.thread.who.number) y.thread.who.path) r) e h
        (arm_runs t.thread.who.number gs i f) (no_arm u.thread.who.number gs g)

    in_order : (t u : Task) → Member t → Member u → Older t u → InOrder (kp.task ys t) (kp.task ys u)
    in_order t u a b h p e f = let x = placed t.thread.who.up ys p e in let z = placed u.thread.who.up ys p f in
        let same = same_task p x.0 z.0 x.1 z.1 in
        let path = z.2 ∙ ap (λ (t : Task). t.thread.who.path) same in
        let own = member_at Member ys p x.0 (each_both Named (λ t. (f : Task → ℕ) → f t ≤ tasks_sum f ys) ys names (members ys)) x.1 in
        let some = own_path x.0 own.0 in
        subst (λ o. MayFollow (role_in o t.thread.who.number) (role_in (task_of u.thread.who.up ys) u.thread.who.number)) (sym x.3)
        (subst (λ o. MayFollow (role_in (Some x.0) t.thread.who.number) (role_in o u.thread.who.number)) (sym (z.3 ∙ ap Some same))
        (may_follow x.0 t u own b (part_path u.thread.who.role u.thread.who b.0 (subst IsSome (sym path) some) ∙
        ap (λ up. up ++ u.thread.who.number ∷ []) path) (h (subst IsSome (sym x.2) some) (x.2 ∙ sym path)) x.0.rest refl
        (arm_in t.thread.who.number x.0.rest) (arm_in u.thread.who.number x.0.rest) refl refl))

    pub order_fits : EachTwo Older ys → EachTwo InOrder (map (kp.task ys) ys)
    order_fits a = two_map InOrder (kp.task ys) ys
        (two_as Member Older (λ t u. InOrder (kp.task ys t) (kp.task ys u)) in_order ys
        (each_both Named (λ t. (f : Task → ℕ) → f t ≤ tasks_sum f ys) ys names (members ys)) a)
