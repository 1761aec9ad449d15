-- Paths under numberings that sort.
use Rattle.std.proofs.Common.{◌≡◌, ℕ, ◌≤◌, ◌<◌, List, [], ◌∷◌, ◌++◌, refl, sym, subst, ap, ◌∙◌, arith, ◌⊎◌, inl, inr}
use Rattle.std.proofs.lemmas.Bool.{cases_lt}
use Rattle.verse_code_machine.proofs.Paths.{same_is}
use Rattle.verse_code_machine_saved.specs.Numbers.{Numbering, Fixed, path_from, path_as}
use Rattle.verse_code_machine_saved.proofs.Numbers.{IsApart, same_as}
use Rattle.run_save_fits.specs.Held.{IsSome}
use Rattle.run_save_kept.specs.Orders.{Before, StandsBefore, NoneBelow, last}
use Rattle.run_save_kept.proofs.Paths.{is_same}
use Rattle.run_save_orders.specs.Roots.{Sorts}

-- a path by its last number
pub path_ends : (p : List ℕ) → IsSome p → (q : List ℕ) × (n : ℕ) × (p ≡ q ++ n ∷ [])
path_ends [] s = absurd s
path_ends (i ∷ []) s = ([], i, refl)
path_ends (i ∷ j ∷ p) s = let h = path_ends (j ∷ p) tt in (i ∷ h.0, h.1, ap (λ x. i ∷ x) h.2)

no_less : (i j : ℕ) → i < j → i ≡ j → ⊥
no_less i j h e = omega (arith, h, e)

no_both : (i j : ℕ) → i < j → j ≤ i → ⊥
no_both i j h g = omega (arith, h, g)

level : (i j : ℕ) → i ≤ j → j ≤ i → i ≡ j
level i j h g = omega (arith, h, g)

module _ (r : Numbering) (sorts : Sorts r) where
  beneath_apart : (i : ℕ) (a : List ℕ) (n k : ℕ) → r (i ∷ a) n ≡ r (i ∷ a) k → n ≡ k
  beneath_apart i a n k e = by (cases_lt n k) (cases_lt k n)
    where
      by : (n < k) ⊎ (k ≤ n) → (k < n) ⊎ (n ≤ k) → n ≡ k
      by (inl l) h = absurd (no_less (r (i ∷ a) n) (r (i ∷ a) k) (sorts.rises i a n k l) e)
      by (inr g) (inl l) = absurd (no_less (r (i ∷ a) k) (r (i ∷ a) n) (sorts.rises i a k n l) (sym e))
      by (inr g) (inr h) = level n k h g

  pub stay_apart : IsApart r
  stay_apart [] n k e = sorts.apart n k e
  stay_apart (i ∷ a) n k e = beneath_apart i a n k e

  pub rises_at : (a : List ℕ) → IsSome a → (n k : ℕ) → n < k → r a n < r a k
  rises_at [] s n k l = absurd s
  rises_at (i ∷ a) s n k l = sorts.rises i a n k l

  -- and back
  pub rose_at : (a : List ℕ) → IsSome a → (n k : ℕ) → r a n < r a k → n < k
  rose_at [] s n k l = absurd s
  rose_at (i ∷ a) s n k l = by (cases_lt n k) (cases_lt k n)
    where
      by : (n < k) ⊎ (k ≤ n) → (k < n) ⊎ (n ≤ k) → n < k
      by (inl h) d = h
      by (inr g) (inl h) = absurd (no_less_both (r (i ∷ a) n) (r (i ∷ a) k) l (sorts.rises i a k n h))
        where
          no_less_both : (x y : ℕ) → x < y → y < x → ⊥
          no_less_both x y h g = omega (arith, h, g)
      by (inr g) (inr h) = absurd (no_less (r (i ∷ a) n) (r (i ∷ a) k) l (ap (r (i ∷ a)) (level n k h g)))

  pub most_at : (a : List ℕ) → IsSome a → (n k : ℕ) → n ≤ k → r a n ≤ r a k
  most_at a s n k h = by (cases_lt n k)
    where
      weak : (x y : ℕ) → x < y → x ≤ y
      weak x y l = omega (arith, l)

      same : (x y : ℕ) → x ≡ y → x ≤ y
      same x y e = omega (arith, e)

      by : (n < k) ⊎ (k ≤ n) → r a n ≤ r a k
      by (inl l) = weak (r a n) (r a k) (rises_at a s n k l)
      by (inr g) = same (r a n) (r a k) (ap (r a) (level n k h g))

  pub least_at : (a : List ℕ) → IsSome a → (n k : ℕ) → r a n ≤ r a k → n ≤ k
  least_at a s n k h = by (cases_lt k n)
    where
      by : (k < n) ⊎ (n ≤ k) → n ≤ k
      by (inl l) = absurd (no_both (r a k) (r a n) (rises_at a s k n l) h)
      by (inr g) = g

  -- ---- paths

  pub one_path : (p q : List ℕ) → path_as r p ≡ path_as r q → p ≡ q
  one_path p q e = same_is p q (sym (same_as r stay_apart p q) ∙ is_same (path_as r p) (path_as r q) e)

  before_from : (i : ℕ) (a p q : List ℕ) → Before p q → Before (path_from r (i ∷ a) p) (path_from r (i ∷ a) q)
  before_from i a [] q b = absurd b
  before_from i a (n ∷ p) [] b = tt
  before_from i a (n ∷ p) (k ∷ q) (inl l) = inl (sorts.rises i a k n l)
  before_from i a (n ∷ p) (k ∷ q) (inr b) = inr (
    ap (r (i ∷ a)) b.0,
    subst (λ m. Before (path_from r (i ∷ (a ++ n ∷ [])) p) (path_from r (i ∷ (a ++ m ∷ [])) q)) b.0
        (before_from i (a ++ n ∷ []) p q b.1),
  )

  stood_from : (i : ℕ) (a p q : List ℕ) → Before (path_from r (i ∷ a) p) (path_from r (i ∷ a) q) → Before p q
  stood_from i a [] q b = absurd b
  stood_from i a (n ∷ p) [] b = tt
  stood_from i a (n ∷ p) (k ∷ q) (inl l) = inl (rose_at (i ∷ a) tt k n l)
  stood_from i a (n ∷ p) (k ∷ q) (inr b) = let e = beneath_apart i a n k b.0 in inr (
    e,
    stood_from i (a ++ n ∷ []) p q
        (subst (λ m. Before (path_from r (i ∷ (a ++ n ∷ [])) p) (path_from r (i ∷ (a ++ m ∷ [])) q)) (sym e) b.1),
  )

  -- beneath one root
  pub stands_as : (p q : List ℕ) → IsSome q → StandsBefore p q → StandsBefore (path_as r p) (path_as r q)
  stands_as [] q s b = absurd b.0
  stands_as (n ∷ p) [] s b = absurd s
  stands_as (n ∷ p) (k ∷ q) s (inl l, e) = absurd (no_less k n l (sym e))
  stands_as (n ∷ p) (k ∷ q) s (inr b, e) = (
    inr (ap (r []) e, subst (λ m. Before (path_from r (n ∷ []) p) (path_from r (m ∷ []) q)) e (before_from n [] p q b.1)),
    ap (r []) e,
  )

  pub stood_as : (p q : List ℕ) → IsSome q → StandsBefore (path_as r p) (path_as r q) → StandsBefore p q
  stood_as [] q s b = absurd b.0
  stood_as (n ∷ p) [] s b = absurd s
  stood_as (n ∷ p) (k ∷ q) s (inl l, e) = absurd (no_less (r [] k) (r [] n) l (sym e))
  stood_as (n ∷ p) (k ∷ q) s (inr b, e) = let d = sorts.apart n k e in (
    inr (d, stood_from n [] p q (subst (λ m. Before (path_from r (n ∷ []) p) (path_from r (m ∷ []) q)) (sym d) b.1)),
    d,
  )

  -- ---- numbers to come

  module _ (left : ℕ) (fixed : Fixed r left) where
    pub above_as : (a : List ℕ) (n : ℕ) → left ≤ n → left ≤ r a n
    above_as a n h = by (cases_lt (r a n) left)
      where
        by : (r a n < left) ⊎ (left ≤ r a n) → left ≤ r a n
        by (inl l) = absurd (no_both (r a n) left l
            (subst (λ k. left ≤ k) (sym (stay_apart a (r a n) n (fixed a (r a n) l))) h))
        by (inr g) = g

    pub above_was : (a : List ℕ) (n : ℕ) → left ≤ r a n → left ≤ n
    above_was a n h = by (cases_lt n left)
      where
        by : (n < left) ⊎ (left ≤ n) → left ≤ n
        by (inl l) = subst (λ k. left ≤ k) (fixed a n l) h
        by (inr g) = g

    pub below_as : (a p : List ℕ) → NoneBelow left p → NoneBelow left (path_from r a p)
    below_as a [] b = tt
    below_as a (n ∷ p) b = (above_as a n b.0, below_as (a ++ n ∷ []) p b.1)

    pub below_was : (a p : List ℕ) → NoneBelow left (path_from r a p) → NoneBelow left p
    below_was a [] b = tt
    below_was a (n ∷ p) b = (above_was a n b.0, below_was (a ++ n ∷ []) p b.1)

    pub last_as : (a p : List ℕ) → left ≤ last p → left ≤ last (path_from r a p)
    last_as a [] h = h
    last_as a (n ∷ []) h = above_as a n h
    last_as a (n ∷ k ∷ p) h = last_as (a ++ n ∷ []) (k ∷ p) h

    pub last_was : (a p : List ℕ) → left ≤ last (path_from r a p) → left ≤ last p
    last_was a [] h = h
    last_was a (n ∷ []) h = above_was a n h
    last_was a (n ∷ k ∷ p) h = last_was (a ++ n ∷ []) (k ∷ p) h
