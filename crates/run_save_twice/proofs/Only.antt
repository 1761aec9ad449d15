-- Sums over tasks of which no two have one number.
use Rattle.std.proofs.Common.{◌≡◌, ℕ, zero, suc, ◌+◌, ◌≤◌, List, [], ◌∷◌, ◌++◌, refl, sym, ap, subst, ◌∙◌, arith, ◌⊎◌, inl, inr}
use Rattle.verse_code_machine.specs.Tasks.{Task}
use Rattle.verse_code_machine.specs.Runs.{Forest}
use Rattle.run_save_shots.specs.Lists.{Each}
use Rattle.run_save_fits.specs.Held.{tasks_sum, trees_sum}
use Rattle.run_save_fits.proofs.KeptAll.{tasks_join}
use Rattle.run_save_spelled.specs.Growing.{number_of, flat, In, first_in, later_in}
use Rattle.run_save_spelled.proofs.Forests.{AllApart, each_in, each_parts, in_left, in_right}

-- ---- elements

module _ {A : Type 0} where
  pub none_in : {B : Type 0} (x : A) → In x [] → B
  none_in x i = elim i [ ]

  pub head_or : (x z : A) (zs : List A) → In x (z ∷ zs) → (x ≡ z) ⊎ In x zs
  head_or x z zs first_in = inl refl
  head_or x z zs (later_in y i) = inr i

  pub each_all : (P : A → Type 0) (xs : List A) → ((x : A) → In x xs → P x) → Each P xs
  each_all P [] f = tt
  each_all P (x ∷ xs) f = (f x first_in, each_all P xs (λ y i. f y (later_in x i)))

  pub each_both : (P Q : A → Type 0) (xs : List A) → Each P xs → Each Q xs → Each (λ x. P x × Q x) xs
  each_both P Q [] a b = tt
  each_both P Q (x ∷ xs) a b = ((a.0, b.0), each_both P Q xs a.1 b.1)

pub each_trees : (P : Task → Type 0) (tss : Forest) → Each P (flat tss) → Each (λ ts. Each P ts) tss
each_trees P [] a = tt
each_trees P (ts ∷ tss) a = let parts = each_parts P ts (flat tss) a in (parts.0, each_trees P tss parts.1)

pub in_tree : (t : Task) (ts : List Task) (tss : Forest) → In t ts → In ts tss → In t (flat tss)
in_tree t ts [] i j = none_in ts j
in_tree t ts (us ∷ tss) i j = elim (head_or ts us tss j) [
  | inl e ↦ in_left t us (flat tss) (subst (λ w. In t w) e i)
  | inr k ↦ in_right t us (flat tss) (in_tree t ts tss i k)
]

pub apart_parts : (xs ys : List Task) → AllApart (xs ++ ys) → AllApart xs × AllApart ys
apart_parts [] ys a = (tt, a)
apart_parts (x ∷ xs) ys a =
    let parts = each_parts (λ z. number_of z ≡ number_of x → ⊥) xs ys a.0 in
    let rest = apart_parts xs ys a.1 in ((parts.0, rest.0), rest.1)

pub apart_tree : (ts : List Task) (tss : Forest) → AllApart (flat tss) → In ts tss → AllApart ts
apart_tree ts [] a i = none_in ts i
apart_tree ts (us ∷ tss) a i =
    let parts = apart_parts us (flat tss) a in
    elim (head_or ts us tss i) [
      | inl e ↦ subst (λ w. AllApart w) (sym e) parts.0
      | inr j ↦ apart_tree ts tss parts.1 j
    ]

-- a task is known by its number
pub same_task : (xs : List Task) (x y : Task) → AllApart xs → In x xs → In y xs → number_of x ≡ number_of y → x ≡ y
same_task [] x y a i j e = none_in x i
same_task (z ∷ zs) x y a i j e = by (head_or x z zs i) (head_or y z zs j) (same_task zs x y a.1)
  where
    by : (x ≡ z) ⊎ In x zs → (y ≡ z) ⊎ In y zs → (In x zs → In y zs → number_of x ≡ number_of y → x ≡ y) → x ≡ y
    by (inl f) (inl g) r = f ∙ sym g
    by (inl f) (inr k) r = absurd (each_in (λ u. number_of u ≡ number_of z → ⊥) y zs a.0 k (sym e ∙ ap number_of f))
    by (inr k) (inl g) r = absurd (each_in (λ u. number_of u ≡ number_of z → ⊥) x zs a.0 k (e ∙ ap number_of g))
    by (inr k) (inr l) r = r k l e

-- ---- sums

pub flat_sum : (f : Task → ℕ) (tss : Forest) → trees_sum f tss ≡ tasks_sum f (flat tss)
flat_sum f [] = refl
flat_sum f (ts ∷ tss) = let a = flat_sum f tss in let b = tasks_join f ts (flat tss) in omega (arith, a, b)

pub none_of : (f : Task → ℕ) (xs : List Task) → ((t : Task) → In t xs → f t ≡ 0) → tasks_sum f xs ≡ 0
none_of f [] g = refl
none_of f (x ∷ xs) g =
    let a = g x first_in in
    let b = none_of f xs (λ t i. g t (later_in x i)) in omega (arith, a, b)

-- where no other task than that of the number weighs
pub only : (f : Task → ℕ) (k n : ℕ) (xs : List Task) → AllApart xs → ((t : Task) → In t xs → f t ≤ k) →
    ((t : Task) → In t xs → 1 ≤ f t → number_of t ≡ n) → tasks_sum f xs ≤ k
only f k n [] a most same = omega arith
only f k n (x ∷ xs) a most same =
    by (f x) refl (only f k n xs a.1 (λ t i. most t (later_in x i)) (λ t i. same t (later_in x i)))
  where
    others : number_of x ≡ n → (t : Task) → In t xs → f t ≡ 0
    others e t i = zero_or (f t) refl
      where
        zero_or : (m : ℕ) → f t ≡ m → f t ≡ 0
        zero_or zero h = h
        zero_or (suc m) h =
            absurd (each_in (λ u. number_of u ≡ number_of x → ⊥) t xs a.0 i (same t (later_in x i) (omega (arith, h)) ∙ sym e))

    by : (m : ℕ) → f x ≡ m → tasks_sum f xs ≤ k → f x + tasks_sum f xs ≤ k
    by zero e r = omega (arith, e, r)
    by (suc m) e r =
        let l = most x first_in in
        let z = none_of f xs (others (same x first_in (omega (arith, e)))) in omega (arith, l, z)

-- a task that weighs
pub record Weighs (f : Task → ℕ) (xs : List Task) : Type 0 where
  pub task : Task
  pub is_in : In task xs
  pub some : 1 ≤ f task

pub some_of : (f : Task → ℕ) (xs : List Task) → (tasks_sum f xs ≡ 0) ⊎ Weighs f xs
some_of f [] = inl refl
some_of f (x ∷ xs) = by (f x) refl (some_of f xs)
  where
    by : (m : ℕ) → f x ≡ m → (tasks_sum f xs ≡ 0) ⊎ Weighs f xs → (f x + tasks_sum f xs ≡ 0) ⊎ Weighs f (x ∷ xs)
    by zero e r = elim r [
      | inl h ↦ inl (omega (arith, e, h))
      | inr w ↦ inr (record { task = w.task; is_in = later_in x w.is_in; some = w.some })
    ]
    by (suc m) e r = inr (record { task = x; is_in = first_in; some = omega (arith, e) })

pub at_least : (f : Task → ℕ) (x : Task) (xs : List Task) → In x xs → f x ≤ tasks_sum f xs
at_least f x [] i = none_in x i
at_least f x (z ∷ zs) i = by (head_or x z zs i) (at_least f x zs)
  where
    by : (x ≡ z) ⊎ In x zs → (In x zs → f x ≤ tasks_sum f zs) → f x ≤ f z + tasks_sum f zs
    by (inl e) r = let h = ap f e in omega (arith, h)
    by (inr j) r = let l = r j in omega (arith, l)
