-- What is kept of the children of a task gives its numbers.
use Rattle.std.proofs.Common.{◌≡◌, ℕ, zero, suc, ◌+◌, ◌*◌, ◌<◌, ◌≤◌, Bool, true, false, ◌&&◌, eqb, max, List, [], ◌∷◌, ◌++◌, length}
use Rattle.std.proofs.Common.{map, get_or, take, drop, Option, Some, None, refl, sym, ap, subst, ◌∙◌, arith}
use Rattle.std.proofs.Math.Nat.{mul-le-mul_left}
use Rattle.std.proofs.lemmas.Bool.{ne_eqb}
use Rattle.std.proofs.lemmas.List.{append_assoc, length-append}
use Rattle.task_tree.specs.Tasks.{is_child}
use Rattle.run_save_shots.specs.Lists.{Each, EachAt, from}
use Rattle.run_save_shots.specs.Kept.{KeptTask, Kept}
use Rattle.run_save_shots.specs.Fitting.{arms_of, is_child_of, is_arm_of, ParentBefore}
use Rattle.run_save_shots.specs.Naming.{number_at, is_begun_since}
use Rattle.run_save_shots.specs.Spelling.{born}
use Rattle.run_save_numbers.specs.Numbers.{Numbers, borns_from, arms_from, numbers, numbers_from, Countable}
use Rattle.run_save_numbers.specs.Marking.{no_marks, nothing, with_children, carry, lifted, with_first, settled, settled_all}
use Rattle.run_save_numbers.proofs.Limits.{few}
use Rattle.run_save_numbers.proofs.Firsts.{is_at, first, first_least, first_or, since_parts}
use Rattle.run_save_numbers.proofs.Seen.{same_more, table, length_table, told, same_told, depths, places, seen, seen_other, outer}
use Rattle.run_save_numbers.proofs.Seen.{length_outer, walked}

module _ (s : Kept) where
  -- the greatest number of those in the background of a frame or of one above it is that of the first
  pub carried : (at d n m : ℕ) (ts : List KeptTask) → d + n ≡ m →
      carry (first s (is_begun_since at m) ts) (table (λ x. first s (is_at at x) ts) d n) ≡ first s (is_begun_since at d) ts
  carried at d zero m ts e = ap (λ k. first s (is_begun_since at k) ts) (sym e ∙ omega arith)
  carried at d (suc n) m ts e =
      let rest : carry (first s (is_begun_since at m) ts) (table (λ x. first s (is_at at x) ts) (suc d) n) ≡
      first s (is_begun_since at (suc d)) ts = carried at (suc d) n m ts (omega (arith, e)) in
      ap (λ k. max k (first s (is_at at d) ts)) rest ∙
      sym (first_or s (is_begun_since at (suc d)) (is_at at d) (is_begun_since at d) (since_parts at d) ts)

  -- behind the lowest frame
  lifts : (at d n m : ℕ) (own ts : List KeptTask) → suc d + n ≡ m →
      lifted (first s (is_begun_since at m) ts) (table (λ x. first s (is_at at x) ts) (suc d) n) ≡ borns_from s at (suc d) n own ts
  lifts at d zero m own ts e = refl
  lifts at d (suc n) m own ts e =
      let one : carry (first s (is_begun_since at m) ts) (table (λ x. first s (is_at at x) ts) (suc d) (suc n)) ≡
      first s (is_begun_since at (suc d)) ts = carried at (suc d) (suc n) m ts e in
      let two : length (table (λ x. first s (is_at at x) ts) (suc (suc d)) n) ≡ n =
      length_table (λ x. first s (is_at at x) ts) (suc (suc d)) n in
      same_more (carry (first s (is_begun_since at m) ts) (table (λ x. first s (is_at at x) ts) (suc d) (suc n)) +
      suc (length (table (λ x. first s (is_at at x) ts) (suc (suc d)) n))) (born s at (suc d) own (suc n) ts)
      (lifted (first s (is_begun_since at m) ts) (table (λ x. first s (is_at at x) ts) (suc (suc d)) n))
      (borns_from s at (suc (suc d)) n own ts)
      (ap (λ k. k + suc (length (table (λ x. first s (is_at at x) ts) (suc (suc d)) n))) one ∙
      ap (λ k. first s (is_begun_since at (suc d)) ts + suc k) two)
      (lifts at (suc d) n m own ts (omega (arith, e)))

  borns_are : (at n : ℕ) (own ts : List KeptTask) →
      with_first (number_at s own) (lifted (first s (is_begun_since at n) ts) (table (λ x. first s (is_at at x) ts) 0 n)) ≡
      borns_from s at 0 n own ts
  borns_are at zero own ts = refl
  borns_are at (suc n) own ts = ap (λ xs. number_at s own ∷ xs) (lifts at 0 n (suc n) own ts (omega arith))

  arms_are : (at d n : ℕ) (ts : List KeptTask) → table (λ place. first s (is_arm_of at place) ts) d n ≡ arms_from s at d n ts
  arms_are at d zero ts = refl
  arms_are at d (suc n) ts = ap (λ xs. first s (is_arm_of at d) ts ∷ xs) (arms_are at (suc d) n ts)

  one_settled : (at own : ℕ) (t : KeptTask) (ts : List KeptTask) → own ≡ number_at s (t ∷ ts) →
      settled own (seen s at (length t.frames) (length (arms_of t.rest)) ts) ≡ numbers s at t ts
  one_settled at own t ts e =
      ap (λ n. told n (with_first n (lifted (first s (is_begun_since at (length t.frames)) ts) (depths s at (length t.frames) ts)))
      (first s (is_begun_since at (length t.frames)) ts) (places s at (length (arms_of t.rest)) ts)) e ∙
      same_told (number_at s (t ∷ ts))
      (with_first (number_at s (t ∷ ts)) (lifted (first s (is_begun_since at (length t.frames)) ts) (depths s at (length t.frames) ts)))
      (borns_from s at 0 (length t.frames) (t ∷ ts) ts) (first s (is_begun_since at (length t.frames)) ts)
      (first s (is_begun_since at (length t.frames)) ts) (places s at (length (arms_of t.rest)) ts)
      (arms_from s at 0 (length (arms_of t.rest)) ts)
      (borns_are at (length t.frames) (t ∷ ts) ts) refl (arms_are at 0 (length (arms_of t.rest)) ts)

  -- ---- a task's children stand behind it

  clean : (k n frames arms : ℕ) (before ts : List KeptTask) → EachAt ParentBefore k (before ++ ts) → k + length before ≤ suc n →
      seen s n frames arms (before ++ ts) ≡ seen s n frames arms ts
  clean k n frames arms [] ts ps le = refl
  clean k n frames arms (t ∷ before) ts ps le =
      sym (seen_other s n frames arms t (before ++ ts) (of t.parent refl)) ∙
      clean (suc k) n frames arms before ts ps.1 (omega (arith, le))
    where
      of : (p : Option ℕ) → t.parent ≡ p → is_child_of n t ≡ false
      of None e = ap (λ p. is_child (Some n) p) e
      of (Some p) e = ap (λ p. is_child (Some n) p) e ∙ ne_eqb n p (λ f. omega (arith, f, le, ps.0 p e))

  all_settled : (before us all : List KeptTask) → all ≡ before ++ us → EachAt ParentBefore 0 all →
      settled_all s (outer s (length before) us all) ≡ numbers_from s (length before) us
  all_settled before [] all e ps = refl
  all_settled before (u ∷ us) all e ps =
      let next : length (before ++ u ∷ []) ≡ suc (length before) = length-append before (u ∷ []) ∙ omega arith in
      let whole : all ≡ (before ++ u ∷ []) ++ us = e ∙ sym (append_assoc before (u ∷ []) us) in
      let here : seen s (length before) (length u.frames) (length (arms_of u.rest)) all ≡
      seen s (length before) (length u.frames) (length (arms_of u.rest)) us =
      ap (λ xs. seen s (length before) (length u.frames) (length (arms_of u.rest)) xs) whole ∙
      clean 0 (length before) (length u.frames) (length (arms_of u.rest)) (before ++ u ∷ []) us
      (subst (λ xs. EachAt ParentBefore 0 xs) whole ps) (omega (arith, next)) in
      let one : settled (s.left + suc s.spent * suc (length (outer s (suc (length before)) us all)))
      (seen s (length before) (length u.frames) (length (arms_of u.rest)) all) ≡ numbers s (length before) u us =
      ap (λ m. settled (s.left + suc s.spent * suc (length (outer s (suc (length before)) us all))) m) here ∙
      one_settled (length before) (s.left + suc s.spent * suc (length (outer s (suc (length before)) us all))) u us
      (ap (λ k. s.left + suc s.spent * suc k) (length_outer s (suc (length before)) us all)) in
      let rest : settled_all s (outer s (suc (length before)) us all) ≡ numbers_from s (suc (length before)) us =
      subst (λ k. settled_all s (outer s k us all) ≡ numbers_from s k us) next (all_settled (before ++ u ∷ []) us all whole ps) in
      same_more (settled (s.left + suc s.spent * suc (length (outer s (suc (length before)) us all)))
      (seen s (length before) (length u.frames) (length (arms_of u.rest)) all)) (numbers s (length before) u us)
      (settled_all s (outer s (suc (length before)) us all)) (numbers_from s (suc (length before)) us) one rest

  abbrev pub marks : List Numbers
  marks = with_children s (map (no_marks s.left) s.tasks) s.tasks

  pub numbers_are : Countable s → settled_all s marks ≡ numbers_from s 0 s.tasks
  numbers_are can = ap (λ ms. settled_all s ms) (walked s s.tasks s.tasks) ∙ all_settled [] s.tasks s.tasks refl can.parents

  -- ---- limits

  pub marks_long : length marks ≡ length s.tasks
  marks_long = ap length (walked s s.tasks s.tasks) ∙ length_outer s 0 s.tasks s.tasks

  -- no number is above that of the first task, and no task has more frames than steps were spent
  abbrev pub Light : Numbers → Type 0
  Light m = carry m.above m.borns + length m.borns ≤ 18446744073709551615

  light : Countable s → (n : ℕ) (us : List KeptTask) → Each (λ (t : KeptTask). length t.frames ≤ s.spent) us →
      Each Light (outer s n us s.tasks)
  light can n [] fs = tt
  light can n (u ∷ us) fs =
      let top : carry (first s (is_begun_since n (length u.frames)) s.tasks)
      (table (λ x. first s (is_at n x) s.tasks) 0 (length u.frames)) ≡
      first s (is_begun_since n 0) s.tasks = carried n 0 (length u.frames) (length u.frames) s.tasks (omega arith) in
      let long : length (table (λ x. first s (is_at n x) s.tasks) 0 (length u.frames)) ≡ length u.frames =
      length_table (λ x. first s (is_at n x) s.tasks) 0 (length u.frames) in
      let most = few s.left s.spent (length s.tasks) can.steps can.few in
      let least = first_least s (is_begun_since n 0) s.tasks in
      (omega (arith, top, long, most, least, fs.0, can.steps), light can (suc n) us fs.1)

  each_at : {A : Type 0} (P : A → Type 0) (xs : List A) (i : ℕ) (d : A) → Each P xs → i < length xs → P (get_or xs i d)
  each_at P [] i d ps lt = absurd (omega (arith, lt))
  each_at P (x ∷ xs) zero d ps lt = ps.0
  each_at P (x ∷ xs) (suc i) d ps lt = each_at P xs i d ps.1 (omega (arith, lt))

  pub marks_light : Countable s → (i : ℕ) → i < length s.tasks → Light (get_or marks i nothing)
  marks_light can i lt =
      let l : length (outer s 0 s.tasks s.tasks) ≡ length s.tasks = length_outer s 0 s.tasks s.tasks in
      subst (λ ms. Light (get_or ms i nothing)) (sym (walked s s.tasks s.tasks))
      (each_at Light (outer s 0 s.tasks s.tasks) i nothing (light can 0 s.tasks can.frames) (omega (arith, l, lt)))
