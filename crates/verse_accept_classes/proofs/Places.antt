-- What stands in a list from a place on.
use Rattle.std.proofs.Common.{◌≡◌, ℕ, suc, ◌+◌, List, [], ◌∷◌, ◌++◌, refl, ap, ◌∙◌, arith}
use Rattle.std.specs.Prelude.{Some, slice_get}

-- these stand in a list from the place n on
module _ {A : Type 0} (all : List A) where
  abbrev pub Placed : ℕ → List A → Type 0
  Placed n [] = Unit {0}
  Placed n (x ∷ xs) = (slice_get all n ≡ Some x) × Placed (n + 1) xs

module _ {A : Type 0} where
  behind : (x : A) (xs : List A) (n : ℕ) → slice_get (x ∷ xs) (n + 1) ≡ slice_get xs n
  behind x xs n = let e : n + 1 ≡ suc n = omega arith in ap (slice_get (x ∷ xs)) e

  later : (x : A) (all : List A) (n : ℕ) (ys : List A) → Placed all n ys → Placed (x ∷ all) (n + 1) ys
  later x all n [] h = tt
  later x all n (y ∷ ys) h = (behind x all n ∙ h.0, later x all (n + 1) ys h.1)

  -- a list stands in itself
  pub all_placed : (xs : List A) → Placed xs 0 xs
  all_placed [] = tt
  all_placed (x ∷ xs) = (refl, later x xs 0 xs (all_placed xs))

  pub first_placed : (all : List A) (n : ℕ) (xs ys : List A) → Placed all n (xs ++ ys) → Placed all n xs
  first_placed all n [] ys h = tt
  first_placed all n (x ∷ xs) ys h = (h.0, first_placed all (n + 1) xs ys h.1)
