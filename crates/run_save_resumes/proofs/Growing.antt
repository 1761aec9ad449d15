-- Each task that is planted stands in one tree.
use Rattle.std.proofs.Common.{◌≡◌, ℕ, zero, suc, ◌+◌, ◌≤◌, map, List, [], ◌∷◌, ◌++◌, Bool, true, false, cond, refl, ap, arith}
use Rattle.verse_code_machine.specs.Tasks.{Role, root, part, Task, same_path}
use Rattle.verse_code_machine.specs.Runs.{Forest}
use Rattle.run_save_shots.specs.Lists.{Each}
use Rattle.run_save_shots.specs.Spelling.{before_parent, planted, grown}
use Rattle.run_save_shots.proofs.Lists.{each_cond}
use Rattle.run_save_resumes.proofs.Adding.{one, tasks_sum, trees_sum, is_named, tasks_join, one_tree}

-- ---- what holds of each

module _ (P : Task → Type 0) where
  before_each : (y : Task) (ts : List Task) → P y → Each P ts → Each P (before_parent y ts)
  before_each y [] a b = tt
  before_each y (x ∷ xs) a b = each_cond P (same_path y.thread.who.up x.thread.who.path) (y ∷ x ∷ xs) (x ∷ before_parent y xs) (a, b) (
    b.0,
    before_each y xs a b.1,
  )

  map_each : (y : Task) (tss : Forest) → P y → Each (λ ts. Each P ts) tss → Each (λ ts. Each P ts) (map (before_parent y) tss)
  map_each y [] a b = tt
  map_each y (ts ∷ tss) a b = (before_each y ts a b.0, map_each y tss a b.1)

  end_each : (y : Task) (tss : Forest) → P y → Each (λ ts. Each P ts) tss → Each (λ ts. Each P ts) (tss ++ (y ∷ []) ∷ [])
  end_each y [] a b = ((a, tt), tt)
  end_each y (ts ∷ tss) a b = (b.0, end_each y tss a b.1)

  planted_each : (q : Role) (y : Task) (tss : Forest) → P y → Each (λ ts. Each P ts) tss → Each (λ ts. Each P ts) (planted q y tss)
  planted_each (root entry) y tss a b = end_each y tss a b
  planted_each part y tss a b = map_each y tss a b

  pub grown_each : (tss : Forest) (ys : List Task) → Each P ys → Each (λ ts. Each P ts) tss → Each (λ ts. Each P ts) (grown tss ys)
  grown_each tss [] a b = b
  grown_each tss (y ∷ ys) a b = grown_each (planted y.thread.who.role y tss) ys a.1 (planted_each y.thread.who.role y tss a.0 b)

-- ---- sums

no_one : (b : Bool) (n : ℕ) → one b + n ≡ 0 → b ≡ false
no_one true n e = absurd (never n e)
  where
    never : (n : ℕ) → 1 + n ≡ 0 → ⊥
    never n e = omega (arith, e)
no_one false n e = refl

module _ (f : Task → ℕ) (y : Task) where
  before_more : (ts : List Task) → tasks_sum f (before_parent y ts) ≤ tasks_sum f ts + f y
  before_more [] = omega arith
  before_more (x ∷ xs) = by_test (same_path y.thread.who.up x.thread.who.path) (before_more xs)
    where
      by_test : (b : Bool) → tasks_sum f (before_parent y xs) ≤ tasks_sum f xs + f y →
          tasks_sum f (cond b (y ∷ x ∷ xs) (x ∷ before_parent y xs)) ≤ (f x + tasks_sum f xs) + f y
      by_test true h = omega arith
      by_test false h = omega (arith, h)

  -- where its parent is not among them nothing is planted
  before_none : (ts : List Task) → tasks_sum (is_named y.thread.who.up) ts ≡ 0 → before_parent y ts ≡ ts
  before_none [] e = refl
  before_none (x ∷ xs) e = by_test (same_path y.thread.who.up x.thread.who.path)
      (no_one (same_path y.thread.who.up x.thread.who.path) (tasks_sum (is_named y.thread.who.up) xs) e)
      (before_none xs (rest (one (same_path y.thread.who.up x.thread.who.path)) (tasks_sum (is_named y.thread.who.up) xs) e))
    where
      rest : (i j : ℕ) → i + j ≡ 0 → j ≡ 0
      rest i j e = omega (arith, e)

      by_test : (b : Bool) → b ≡ false → before_parent y xs ≡ xs → cond b (y ∷ x ∷ xs) (x ∷ before_parent y xs) ≡ x ∷ xs
      by_test true g h = absurd (cc)
      by_test false g h = ap (λ zs. x ∷ zs) h

  map_none : (tss : Forest) → trees_sum (is_named y.thread.who.up) tss ≡ 0 → map (before_parent y) tss ≡ tss
  map_none [] e = refl
  map_none (ts ∷ tss) e = both (before_none ts
      (first (tasks_sum (is_named y.thread.who.up) ts) (trees_sum (is_named y.thread.who.up) tss) e))
      (map_none tss (rest (tasks_sum (is_named y.thread.who.up) ts) (trees_sum (is_named y.thread.who.up) tss) e))
    where
      first : (i j : ℕ) → i + j ≡ 0 → i ≡ 0
      first i j e = omega (arith, e)

      rest : (i j : ℕ) → i + j ≡ 0 → j ≡ 0
      rest i j e = omega (arith, e)

      both : {x z : List Task} {xs zs : Forest} → x ≡ z → xs ≡ zs → x ∷ xs ≡ z ∷ zs
      both e f = cc

  map_more : (tss : Forest) → trees_sum (is_named y.thread.who.up) tss ≤ 1 → trees_sum f (map (before_parent y) tss) ≤ trees_sum f tss + f y
  map_more [] h = omega arith
  map_more (ts ∷ tss) h = by_count (tasks_sum (is_named y.thread.who.up) ts) refl (map_more tss)
    where
      by_count : (n : ℕ) → tasks_sum (is_named y.thread.who.up) ts ≡ n →
          (trees_sum (is_named y.thread.who.up) tss ≤ 1 → trees_sum f (map (before_parent y) tss) ≤ trees_sum f tss + f y) →
          tasks_sum f (before_parent y ts) + trees_sum f (map (before_parent y) tss) ≤ (tasks_sum f ts + trees_sum f tss) + f y
      by_count zero e g = let a = ap (tasks_sum f) (before_none ts e) in let b =
          g (less (tasks_sum (is_named y.thread.who.up) ts) (trees_sum (is_named y.thread.who.up) tss) h) in omega (arith, a, b)
        where
          less : (i j : ℕ) → i + j ≤ 1 → j ≤ 1
          less i j e = omega (arith, e)
      by_count (suc n) e g = let a = before_more ts in let b =
          ap (trees_sum f) (map_none tss (others (tasks_sum (is_named y.thread.who.up) ts) (trees_sum (is_named y.thread.who.up) tss) n h
          e)) in omega (arith, a, b)
        where
          others : (i j n : ℕ) → i + j ≤ 1 → i ≡ suc n → j ≡ 0
          others i j n e f = omega (arith, e, f)

  planted_more : (q : Role) (tss : Forest) → trees_sum (is_named y.thread.who.up) tss ≤ 1 →
      trees_sum f (planted q y tss) ≤ trees_sum f tss + f y
  planted_more (root entry) tss h = let a = one_tree f tss (y ∷ []) in omega (arith, a)
  planted_more part tss h = map_more tss h

-- no more is in the trees than was planted
pub grown_sum : (ys done : List Task) (tss : Forest) → ((f : Task → ℕ) → trees_sum f tss ≤ tasks_sum f done) →
    ((p : List ℕ) → tasks_sum (is_named p) done + tasks_sum (is_named p) ys ≤ 1) → (f : Task → ℕ) →
    trees_sum f (grown tss ys) ≤ tasks_sum f done + tasks_sum f ys
grown_sum [] done tss h u f = let a = h f in omega (arith, a)
grown_sum (y ∷ ys) done tss h u f =
    let a = grown_sum ys (done ++ y ∷ []) (planted y.thread.who.role y tss) (λ g. more g) (λ p. same p) f in let b =
    tasks_join f done (y ∷ []) in
    omega (arith, a, b)
  where
    below : (i j k : ℕ) → i ≤ j → j + k ≤ 1 → i ≤ 1
    below i j k e f = omega (arith, e, f)

    more : (g : Task → ℕ) → trees_sum g (planted y.thread.who.role y tss) ≤ tasks_sum g (done ++ y ∷ [])
    more g =
        let a = planted_more g y y.thread.who.role tss
        (below (trees_sum (is_named y.thread.who.up) tss) (tasks_sum (is_named y.thread.who.up) done) (tasks_sum
        (is_named y.thread.who.up) (y ∷ ys)) (h (is_named y.thread.who.up)) (u y.thread.who.up)) in
        let b = h g in let d = tasks_join g done (y ∷ []) in omega (arith, a, b, d)

    same : (p : List ℕ) → tasks_sum (is_named p) (done ++ y ∷ []) + tasks_sum (is_named p) ys ≤ 1
    same p = let a = u p in let b = tasks_join (is_named p) done (y ∷ []) in omega (arith, a, b)
