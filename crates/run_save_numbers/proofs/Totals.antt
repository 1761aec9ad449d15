-- The numbers of one task after another.
use Rattle.std.proofs.Common.{◌≡◌, ℕ, zero, suc, ◌+◌, ◌-◌, ◌*◌, ◌<◌, ◌≤◌, List, [], ◌∷◌, ◌++◌, length, map, set, get_or, take, drop, refl}
use Rattle.std.proofs.Common.{sym, ap, subst, ◌∙◌, arith}
use Rattle.std.proofs.lemmas.List.{get_or-map, map-set, length-map}
use Rattle.run_save_shots.specs.Kept.{KeptTask, Kept}
use Rattle.run_save_numbers.specs.declared.tables.TaskNumbers.{TaskNumbers}
use Rattle.run_save_numbers.specs.Numbers.{Numbers, numbers_from, Countable}
use Rattle.run_save_numbers.specs.Marking.{nothing, carry, settled, settled_all}
use Rattle.run_save_numbers.specs.View.{numbers_of}
use Rattle.run_save_numbers.proofs.Settled.{marks, numbers_are, marks_long, Light, marks_light}

-- ---- the first elements of one list, and the others of another one

mixed_long : {A : Type 0} (xs ys : List A) (i : ℕ) → length xs ≡ length ys → length (take i xs ++ drop i ys) ≡ length ys
mixed_long [] [] zero e = refl
mixed_long [] [] (suc i) e = refl
mixed_long [] (y ∷ ys) i e = absurd (omega (arith, e))
mixed_long (x ∷ xs) [] i e = absurd (omega (arith, e))
mixed_long (x ∷ xs) (y ∷ ys) zero e = refl
mixed_long (x ∷ xs) (y ∷ ys) (suc i) e = ap suc (mixed_long xs ys i (omega (arith, e)))

mixed_at : {A : Type 0} (xs ys : List A) (i : ℕ) (d : A) → length xs ≡ length ys → i < length ys →
    get_or (take i xs ++ drop i ys) i d ≡ get_or ys i d
mixed_at xs [] i d e l = absurd (omega (arith, l))
mixed_at [] (y ∷ ys) i d e l = absurd (omega (arith, e))
mixed_at (x ∷ xs) (y ∷ ys) zero d e l = refl
mixed_at (x ∷ xs) (y ∷ ys) (suc i) d e l = mixed_at xs ys i d (omega (arith, e)) (omega (arith, l))

mixed_set : {A : Type 0} (xs ys : List A) (i : ℕ) (z d : A) → length xs ≡ length ys → i < length ys → z ≡ get_or xs i d →
    set (take i xs ++ drop i ys) i z ≡ take (suc i) xs ++ drop (suc i) ys
mixed_set xs [] i z d e l h = absurd (omega (arith, l))
mixed_set [] (y ∷ ys) i z d e l h = absurd (omega (arith, e))
mixed_set (x ∷ xs) (y ∷ ys) zero z d e l h = ap (λ w. w ∷ ys) h
mixed_set (x ∷ xs) (y ∷ ys) (suc i) z d e l h = ap (λ ws. x ∷ ws) (mixed_set xs ys i z d (omega (arith, e)) (omega (arith, l)) h)

mixed_end : {A : Type 0} (xs ys : List A) (i : ℕ) → length xs ≡ length ys → length ys ≤ i → take i xs ++ drop i ys ≡ xs
mixed_end [] [] zero e l = refl
mixed_end [] [] (suc i) e l = refl
mixed_end [] (y ∷ ys) i e l = absurd (omega (arith, e))
mixed_end (x ∷ xs) [] i e l = absurd (omega (arith, e))
mixed_end (x ∷ xs) (y ∷ ys) zero e l = absurd (omega (arith, l))
mixed_end (x ∷ xs) (y ∷ ys) (suc i) e l = ap (λ ws. x ∷ ws) (mixed_end xs ys i (omega (arith, e)) (omega (arith, l)))

-- ---- all tasks

module _ (s : Kept) where
  settled_long : (ms : List Numbers) → length (settled_all s ms) ≡ length ms
  settled_long [] = refl
  settled_long (m ∷ ms) = ap suc (settled_long ms)

  settled_at : (ms : List Numbers) (i : ℕ) → i < length ms →
      get_or (settled_all s ms) i nothing ≡ settled (s.left + suc s.spent * (length ms - i)) (get_or ms i nothing)
  settled_at [] i l = absurd (omega (arith, l))
  settled_at (m ∷ ms) zero l =
      let same : suc (length ms) ≡ suc (length ms) - zero = omega arith in ap (λ k. settled (s.left + suc s.spent * k) m) same
  settled_at (m ∷ ms) (suc i) l =
      let same : length ms - i ≡ suc (length ms) - suc i = omega arith in
      settled_at ms i (omega (arith, l)) ∙ ap (λ k. settled (s.left + suc s.spent * k) (get_or ms i nothing)) same

  -- so far the numbers of the first tasks, and of the others what is kept of their children
  abbrev pub SoFar : List TaskNumbers → ℕ → Type 0
  SoFar all i = map numbers_of all ≡ take i (settled_all s (marks s)) ++ drop i (marks s)

  total : (all : List TaskNumbers) (i : ℕ) → SoFar all i → length all ≡ length s.tasks
  total all i e =
      sym (length-map all numbers_of) ∙ (ap length e ∙
      (mixed_long (settled_all s (marks s)) (marks s) i (settled_long (marks s)) ∙ marks_long s))

  pub all_marked : (all : List TaskNumbers) → map numbers_of all ≡ marks s → length all ≡ length s.tasks
  all_marked all e = sym (length-map all numbers_of) ∙ (ap length e ∙ marks_long s)

  pub step_few : (all : List TaskNumbers) (i n : ℕ) → Countable s → SoFar all i → n ≡ length all → n - i ≤ s.spent
  step_few all i n can e l = omega (arith, can.few, total all i e, l)

  here : (all : List TaskNumbers) (i : ℕ) (m : TaskNumbers) → SoFar all i → i < length s.tasks → m ≡ get_or all i m →
      numbers_of m ≡ get_or (marks s) i nothing
  here all i m e l is =
      ap numbers_of is ∙ (sym (get_or-map numbers_of all i m nothing (omega (arith, l, total all i e))) ∙
      (ap (λ ms. get_or ms i nothing) e ∙
      mixed_at (settled_all s (marks s)) (marks s) i nothing (settled_long (marks s)) (omega (arith, l, marks_long s))))

  pub step_light : (all : List TaskNumbers) (i : ℕ) (m : TaskNumbers) → Countable s → SoFar all i → i < length s.tasks →
      m ≡ get_or all i m → carry m.above m.borns.items + length m.borns.items ≤ 18446744073709551615
  step_light all i m can e l is = subst (λ k. Light s k) (sym (here all i m e l is)) (marks_light s can i l)

  pub step_more : (all : List TaskNumbers) (i own n : ℕ) (m new : TaskNumbers) → SoFar all i → i < length s.tasks → m ≡ get_or all i m →
      n ≡ length all → own ≡ s.left + suc s.spent * (n - i) → numbers_of new ≡ settled own (numbers_of m) →
      SoFar (set all i new) (i + 1)
  step_more all i own n m new e l is long number h =
      let next : i + 1 ≡ suc i = omega arith in
      let count : n - i ≡ length (marks s) - i = omega (arith, long, total all i e, marks_long s) in
      let lt : i < length (marks s) = omega (arith, l, marks_long s) in
      let it : numbers_of new ≡ get_or (settled_all s (marks s)) i nothing =
      h ∙ (ap (λ k. settled own k) (here all i m e l is) ∙
      (ap (λ k. settled k (get_or (marks s) i nothing)) (number ∙ ap (λ k. s.left + suc s.spent * k) count) ∙
      sym (settled_at (marks s) i lt))) in
      map-set numbers_of all i new ∙ (ap (λ ms. set ms i (numbers_of new)) e ∙
      (mixed_set (settled_all s (marks s)) (marks s) i (numbers_of new) nothing (settled_long (marks s)) lt it ∙
      ap (λ k. take k (settled_all s (marks s)) ++ drop k (marks s)) (sym next)))

  pub ends : (all : List TaskNumbers) (i : ℕ) → Countable s → SoFar all i → length s.tasks ≤ i →
      map numbers_of all ≡ numbers_from s 0 s.tasks
  ends all i can e l =
      e ∙ (mixed_end (settled_all s (marks s)) (marks s) i (settled_long (marks s)) (omega (arith, l, marks_long s)) ∙ numbers_are s can)
