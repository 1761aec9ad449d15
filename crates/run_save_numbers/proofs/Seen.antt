-- What is kept of the children of each task, by place.
use Rattle.std.proofs.Common.{◌≡◌, ℕ, zero, suc, ◌+◌, ◌*◌, ◌<◌, ◌≤◌, Bool, true, false, ◌&&◌, cond, eqb, List, [], ◌∷◌, ◌++◌, length}
use Rattle.std.proofs.Common.{map, set, get_or, replicate, Option, Some, None, refl, sym, ap, ◌∙◌, arith, ◌⊎◌, inl, inr}
use Rattle.std.proofs.lemmas.Bool.{cases_eq, eq-eqb, ne_eqb, le-leb, lt-leb, ltb-true, ltb-false}
use Rattle.std.specs.Prelude.{nat_le, nat_lt, if◌then◌else◌}
use Rattle.task_tree.specs.Tasks.{is_child, is_behind}
use Rattle.task_tree.specs.declared.tasks.Role.{Role}
use Rattle.task_tree.specs.declared.tasks.Role.TheVariants.{Root, Arm, Behind}
use Rattle.run_save_shots.specs.Kept.{KeptTask, Kept}
use Rattle.run_save_shots.specs.Fitting.{arms_of, is_child_of, is_arm_of}
use Rattle.run_save_shots.specs.Naming.{number_at, is_since, is_begun_since}
use Rattle.run_save_numbers.specs.Numbers.{Numbers}
use Rattle.run_save_numbers.specs.Marking.{no_marks, nothing, marked, with_child, with_children}
use Rattle.run_save_numbers.proofs.Firsts.{is_at, first, first_step}

-- ---- numbers by place

pub same_more : {A : Type 0} (x y : A) (xs ys : List A) → x ≡ y → xs ≡ ys → x ∷ xs ≡ y ∷ ys
same_more x y xs ys e f = ap (λ z. z ∷ xs) e ∙ ap (λ zs. y ∷ zs) f

abbrev pub table : (ℕ → ℕ) → (place count : ℕ) → List ℕ
table g d zero = []
table g d (suc n) = g d ∷ table g (suc d) n

pub same_table : (g h : ℕ → ℕ) (d n : ℕ) → ((x : ℕ) → d ≤ x → x < d + n → g x ≡ h x) → table g d n ≡ table h d n
same_table g h d zero e = refl
same_table g h d (suc n) e = same_more (g d) (h d) (table g (suc d) n) (table h (suc d) n) (e d (omega arith) (omega arith))
    (same_table g h (suc d) n (λ x l m. e x (omega (arith, l)) (omega (arith, m))))

pub length_table : (g : ℕ → ℕ) (d n : ℕ) → length (table g d n) ≡ n
length_table g d zero = refl
length_table g d (suc n) = ap suc (length_table g (suc d) n)

-- another one at a place
pub set_table : (g h : ℕ → ℕ) (d n i y : ℕ) → ((x : ℕ) → h x ≡ cond (eqb x (d + i)) y (g x)) → set (table g d n) i y ≡ table h d n
set_table g h d zero i y e = refl
set_table g h d (suc n) zero y e =
    let o : eqb d (d + 0) ≡ true = eq-eqb d (d + 0) (omega arith) in
    same_more y (h d) (table g (suc d) n) (table h (suc d) n) (sym (e d ∙ ap (λ b. cond b y (g d)) o))
    (same_table g h (suc d) n (λ x l m. sym (e x ∙ ap (λ b. cond b y (g x)) (ne_eqb x (d + 0) (λ k. omega (arith, k, l))))))
set_table g h d (suc n) (suc i) y e =
    let o : eqb d (d + suc i) ≡ false = ne_eqb d (d + suc i) (λ k. omega (arith, k)) in
    let same : d + suc i ≡ suc d + i = omega arith in
    same_more (g d) (h d) (set (table g (suc d) n) i y) (table h (suc d) n) (sym (e d ∙ ap (λ b. cond b y (g d)) o))
    (set_table g h (suc d) n i y (λ x. e x ∙ ap (λ k. cond (eqb x k) y (g x)) same))

same_number : (n d c : ℕ) → replicate c n ≡ table (λ x. n) d c
same_number n d zero = refl
same_number n d (suc c) = ap (λ xs. n ∷ xs) (same_number n (suc d) c)

turned : (a b : ℕ) → eqb a b ≡ eqb b (0 + a)
turned a b = by (cases_eq a b)
  where
    by : (a ≡ b) ⊎ (a ≡ b → ⊥) → eqb a b ≡ eqb b (0 + a)
    by (inl e) = eq-eqb a b e ∙ sym (eq-eqb b (0 + a) (omega (arith, e)))
    by (inr d) = ne_eqb a b d ∙ sym (ne_eqb b (0 + a) (λ k. d (omega (arith, k))))

-- ---- one task

abbrev pub told : (own : ℕ) (borns : List ℕ) (above : ℕ) (arms : List ℕ) → Numbers
told own borns above arms = record { own = own; borns = borns; above = above; arms = arms }

pub same_told : (n : ℕ) (b c : List ℕ) (a d : ℕ) (x y : List ℕ) → b ≡ c → a ≡ d → x ≡ y → told n b a x ≡ told n c d y
same_told n b c a d x y e f g = ap (λ z. told n z a x) e ∙ (ap (λ z. told n c z x) f ∙ ap (λ z. told n c d z) g)

both_false : (a b : Bool) → a ≡ false → (a && b) ≡ false
both_false a b e = ap (λ c. c && b) e

module _ (s : Kept) where
  -- by depth the first child in the background of a frame; and by place the first that is an arm
  abbrev pub depths : (at frames : ℕ) → List KeptTask → List ℕ
  depths at frames ts = table (λ d. first s (is_at at d) ts) 0 frames

  abbrev pub places : (at arms : ℕ) → List KeptTask → List ℕ
  places at arms ts = table (λ place. first s (is_arm_of at place) ts) 0 arms

  -- what is kept of the task at a place that has so many frames and arms, where these tasks were walked
  abbrev pub seen : (at frames arms : ℕ) → List KeptTask → Numbers
  seen at frames arms ts = told s.left (depths at frames ts) (first s (is_begun_since at frames) ts) (places at arms ts)

  -- the first is another one, or as before
  takes : (test : KeptTask → Bool) (t : KeptTask) (ts : List KeptTask) (b : Bool) → test t ≡ b →
      first s test (t ∷ ts) ≡ cond b (number_at s (t ∷ ts)) (first s test ts)
  takes test t ts b e = first_step s test t ts ∙ ap (λ c. cond c (number_at s (t ∷ ts)) (first s test ts)) e

  depths_same : (at frames : ℕ) (t : KeptTask) (ts : List KeptTask) → ((d : ℕ) → d < frames → is_at at d t ≡ false) →
      depths at frames ts ≡ depths at frames (t ∷ ts)
  depths_same at frames t ts none = same_table (λ d. first s (is_at at d) ts) (λ d. first s (is_at at d) (t ∷ ts)) 0 frames
      (λ d l m. sym (takes (is_at at d) t ts false (none d (omega (arith, m)))))

  places_same : (at arms : ℕ) (t : KeptTask) (ts : List KeptTask) → ((place : ℕ) → is_arm_of at place t ≡ false) →
      places at arms ts ≡ places at arms (t ∷ ts)
  places_same at arms t ts none =
      same_table (λ place. first s (is_arm_of at place) ts) (λ place. first s (is_arm_of at place) (t ∷ ts)) 0 arms
      (λ place l m. sym (takes (is_arm_of at place) t ts false (none place)))

  -- a task that is no child of it
  pub seen_other : (at frames arms : ℕ) (t : KeptTask) (ts : List KeptTask) → is_child_of at t ≡ false →
      seen at frames arms ts ≡ seen at frames arms (t ∷ ts)
  seen_other at frames arms t ts apart =
      same_told s.left (depths at frames ts) (depths at frames (t ∷ ts)) (first s (is_begun_since at frames) ts)
      (first s (is_begun_since at frames) (t ∷ ts)) (places at arms ts) (places at arms (t ∷ ts))
      (depths_same at frames t ts (λ d l. both_false (is_child_of at t) (is_behind d t.role) apart))
      (sym (takes (is_begun_since at frames) t ts false (both_false (is_child_of at t) (is_since frames t.role) apart)))
      (places_same at arms t ts (λ place. rw apart refl))

  -- a child
  module _ (at frames arms : ℕ) (t : KeptTask) (ts : List KeptTask) (yes : is_child_of at t ≡ true) where
    at_is : (r : Role) → t.role ≡ r → (d : ℕ) → is_at at d t ≡ is_behind d r
    at_is r e d = rw (yes, e) refl

    begun_is : (r : Role) → t.role ≡ r → is_begun_since at frames t ≡ is_since frames r
    begun_is r e = rw (yes, e) refl

    as_root : t.role ≡ Root → marked (number_at s (t ∷ ts)) Root (seen at frames arms ts) ≡ seen at frames arms (t ∷ ts)
    as_root e =
        same_told s.left (depths at frames ts) (depths at frames (t ∷ ts)) (first s (is_begun_since at frames) ts)
        (first s (is_begun_since at frames) (t ∷ ts)) (places at arms ts) (places at arms (t ∷ ts))
        (depths_same at frames t ts (λ d l. at_is Root e d))
        (sym (takes (is_begun_since at frames) t ts false (begun_is Root e)))
        (places_same at arms t ts (λ place. rw (yes, e) refl))

    as_arm : (here : ℕ) → t.role ≡ Arm here →
        marked (number_at s (t ∷ ts)) (Arm here) (seen at frames arms ts) ≡ seen at frames arms (t ∷ ts)
    as_arm here e =
        same_told s.left (depths at frames ts) (depths at frames (t ∷ ts)) (number_at s (t ∷ ts))
        (first s (is_begun_since at frames) (t ∷ ts)) (set (places at arms ts) here (number_at s (t ∷ ts))) (places at arms (t ∷ ts))
        (depths_same at frames t ts (λ d l. at_is (Arm here) e d))
        (sym (takes (is_begun_since at frames) t ts true (begun_is (Arm here) e)))
        (set_table (λ place. first s (is_arm_of at place) ts) (λ place. first s (is_arm_of at place) (t ∷ ts)) 0 arms here
        (number_at s (t ∷ ts)) (λ place. takes (is_arm_of at place) t ts (eqb place (0 + here)) (is_here place)))
      where
        is_here : (place : ℕ) → is_arm_of at place t ≡ eqb place (0 + here)
        is_here place = rw (yes, e) (turned here place)

    as_behind : (d : ℕ) → t.role ≡ Behind d →
        marked (number_at s (t ∷ ts)) (Behind d) (seen at frames arms ts) ≡ seen at frames arms (t ∷ ts)
    as_behind d e =
        by (nat_lt d (length (depths at frames ts))) refl (length_table (λ x. first s (is_at at x) ts) 0 frames)
      where
        by : (b : Bool) → nat_lt d (length (depths at frames ts)) ≡ b → length (depths at frames ts) ≡ frames →
            (if b then told s.left (set (depths at frames ts) d (number_at s (t ∷ ts))) (first s (is_begun_since at frames) ts)
            (places at arms ts) else told s.left (depths at frames ts) (number_at s (t ∷ ts)) (places at arms ts)) ≡
            seen at frames arms (t ∷ ts)
        by true f long =
            same_told s.left (set (depths at frames ts) d (number_at s (t ∷ ts))) (depths at frames (t ∷ ts))
            (first s (is_begun_since at frames) ts) (first s (is_begun_since at frames) (t ∷ ts)) (places at arms ts)
            (places at arms (t ∷ ts))
            (set_table (λ x. first s (is_at at x) ts) (λ x. first s (is_at at x) (t ∷ ts)) 0 frames d (number_at s (t ∷ ts))
            (λ x. takes (is_at at x) t ts (eqb x (0 + d)) (at_is (Behind d) e x ∙ turned d x)))
            (sym (takes (is_begun_since at frames) t ts false (begun_is (Behind d) e ∙
            lt-leb frames d (omega (arith, ltb-true d (length (depths at frames ts)) f, long)))))
            (places_same at arms t ts (λ place. rw (yes, e) refl))
        by false f long =
            same_told s.left (depths at frames ts) (depths at frames (t ∷ ts)) (number_at s (t ∷ ts))
            (first s (is_begun_since at frames) (t ∷ ts)) (places at arms ts) (places at arms (t ∷ ts))
            (depths_same at frames t ts (λ x l. at_is (Behind d) e x ∙
            ne_eqb d x (λ k. omega (arith, k, l, ltb-false d (length (depths at frames ts)) f, long))))
            (sym (takes (is_begun_since at frames) t ts true (begun_is (Behind d) e ∙
            le-leb frames d (omega (arith, ltb-false d (length (depths at frames ts)) f, long)))))
            (places_same at arms t ts (λ place. rw (yes, e) refl))

    pub seen_child : marked (number_at s (t ∷ ts)) t.role (seen at frames arms ts) ≡ seen at frames arms (t ∷ ts)
    seen_child = of t.role refl
      where
        of : (r : Role) → t.role ≡ r → marked (number_at s (t ∷ ts)) r (seen at frames arms ts) ≡ seen at frames arms (t ∷ ts)
        of Root e = as_root e
        of (Arm here) e = as_arm here e
        of (Behind d) e = as_behind d e

  -- ---- all tasks

  -- of these tasks, the first of which has the place n
  abbrev pub outer : ℕ → (us ts : List KeptTask) → List Numbers
  outer n [] ts = []
  outer n (u ∷ us) ts = seen n (length u.frames) (length (arms_of u.rest)) ts ∷ outer (suc n) us ts

  pub length_outer : (n : ℕ) (us ts : List KeptTask) → length (outer n us ts) ≡ length us
  length_outer n [] ts = refl
  length_outer n (u ∷ us) ts = ap suc (length_outer (suc n) us ts)

  none : s.left ≡ number_at s []
  none = omega arith

  all_left : (c : ℕ) → replicate c s.left ≡ table (λ x. number_at s []) 0 c
  all_left c = same_number s.left 0 c ∙ ap (λ k. table (λ x. k) 0 c) none

  outer_none : (n : ℕ) (us : List KeptTask) → map (no_marks s.left) us ≡ outer n us []
  outer_none n [] = refl
  outer_none n (u ∷ us) =
      same_more (no_marks s.left u) (seen n (length u.frames) (length (arms_of u.rest)) []) (map (no_marks s.left) us)
      (outer (suc n) us [])
      (same_told s.left (replicate (length u.frames) s.left) (depths n (length u.frames) []) s.left (number_at s [])
      (replicate (length (arms_of u.rest)) s.left) (places n (length (arms_of u.rest)) []) (all_left (length u.frames)) none
      (all_left (length (arms_of u.rest))))
      (outer_none (suc n) us)

  outer_other : (n : ℕ) (us : List KeptTask) (t : KeptTask) (ts : List KeptTask) → ((x : ℕ) → n ≤ x → is_child_of x t ≡ false) →
      outer n us ts ≡ outer n us (t ∷ ts)
  outer_other n [] t ts apart = refl
  outer_other n (u ∷ us) t ts apart =
      same_more (seen n (length u.frames) (length (arms_of u.rest)) ts) (seen n (length u.frames) (length (arms_of u.rest)) (t ∷ ts))
      (outer (suc n) us ts) (outer (suc n) us (t ∷ ts))
      (seen_other n (length u.frames) (length (arms_of u.rest)) t ts (apart n (omega arith)))
      (outer_other (suc n) us t ts (λ x l. apart x (omega (arith, l))))

  outer_child : (n : ℕ) (us : List KeptTask) (i : ℕ) (t : KeptTask) (ts : List KeptTask) → t.parent ≡ Some (n + i) →
      set (outer n us ts) i (marked (number_at s (t ∷ ts)) t.role (get_or (outer n us ts) i nothing)) ≡ outer n us (t ∷ ts)
  outer_child n [] i t ts e = refl
  outer_child n (u ∷ us) zero t ts e =
      same_more (marked (number_at s (t ∷ ts)) t.role (seen n (length u.frames) (length (arms_of u.rest)) ts))
      (seen n (length u.frames) (length (arms_of u.rest)) (t ∷ ts)) (outer (suc n) us ts) (outer (suc n) us (t ∷ ts))
      (seen_child n (length u.frames) (length (arms_of u.rest)) t ts
      (ap (λ p. is_child (Some n) p) e ∙ eq-eqb n (n + 0) (omega arith)))
      (outer_other (suc n) us t ts (λ x l. ap (λ p. is_child (Some x) p) e ∙ ne_eqb x (n + 0) (λ k. omega (arith, k, l))))
  outer_child n (u ∷ us) (suc i) t ts e =
      same_more (seen n (length u.frames) (length (arms_of u.rest)) ts) (seen n (length u.frames) (length (arms_of u.rest)) (t ∷ ts))
      (set (outer (suc n) us ts) i (marked (number_at s (t ∷ ts)) t.role (get_or (outer (suc n) us ts) i nothing)))
      (outer (suc n) us (t ∷ ts))
      (seen_other n (length u.frames) (length (arms_of u.rest)) t ts
      (ap (λ p. is_child (Some n) p) e ∙ ne_eqb n (n + suc i) (λ k. omega (arith, k))))
      (outer_child (suc n) us i t ts (e ∙ ap Some (omega arith)))

  outer_more : (us : List KeptTask) (t : KeptTask) (ts : List KeptTask) →
      with_child (outer 0 us ts) t.parent t.role (number_at s (t ∷ ts)) ≡ outer 0 us (t ∷ ts)
  outer_more us t ts = of t.parent refl
    where
      of : (p : Option ℕ) → t.parent ≡ p → with_child (outer 0 us ts) p t.role (number_at s (t ∷ ts)) ≡ outer 0 us (t ∷ ts)
      of None e = outer_other 0 us t ts (λ x l. ap (λ p. is_child (Some x) p) e)
      of (Some p) e = outer_child 0 us p t ts (e ∙ ap Some (omega arith))

  pub walked : (us ts : List KeptTask) → with_children s (map (no_marks s.left) us) ts ≡ outer 0 us ts
  walked us [] = outer_none 0 us
  walked us (t ∷ ts) = ap (λ ms. with_child ms t.parent t.role (number_at s (t ∷ ts))) (walked us ts) ∙ outer_more us t ts
