-- Tests of numbers by recursion, and elements by their places.
use Rattle.std.specs.Prelude.{slice_get}
use Rattle.std.proofs.Common.{◌≡◌, ℕ, zero, suc, true, refl, ap, sym, ◌∙◌, Bool, false, ◌<◌, arith, ◌≤◌, List, ◌∷◌, map, option_map, length}
use Rattle.std.proofs.Common.{[], Some, None, ◌++◌}
use Rattle.verse_meaning_state.specs.Waits.{eqn, ltn, nth}

pub eqn_is : (n m : ℕ) → eqn n m ≡ true → n ≡ m
eqn_is zero zero e = refl
eqn_is zero (suc m) e = absurd (cc)
eqn_is (suc n) zero e = absurd (cc)
eqn_is (suc n) (suc m) e = ap suc (eqn_is n m e)

pub eqn_same : (a : ℕ) → eqn a a ≡ true
eqn_same zero = refl
eqn_same (suc a) = eqn_same a

pub eqn_yes : (a b : ℕ) → a ≡ b → eqn a b ≡ true
eqn_yes a b e = ap (λ k. eqn a k) (sym e) ∙ eqn_same a

pub eqn_not : (a b : ℕ) → (a ≡ b → ⊥) → eqn a b ≡ false
eqn_not a b other = by_answer (eqn a b) refl
  where
    by_answer : (t : Bool) → eqn a b ≡ t → t ≡ false
    by_answer true e = absurd (other (eqn_is a b e))
    by_answer false e = refl

pub eqn_less : (a b : ℕ) → a < b → eqn a b ≡ false
eqn_less zero zero lt = absurd (omega (arith, lt))
eqn_less zero (suc b) lt = refl
eqn_less (suc a) zero lt = refl
eqn_less (suc a) (suc b) lt = eqn_less a b (omega (arith, lt))

pub eqn_more : (a b : ℕ) → b < a → eqn a b ≡ false
eqn_more zero b lt = absurd (omega (arith, lt))
eqn_more (suc a) zero lt = refl
eqn_more (suc a) (suc b) lt = eqn_more a b (omega (arith, lt))

pub ltn_is_not : (n m : ℕ) → ltn n m ≡ false → m ≤ n
ltn_is_not n zero e = omega arith
ltn_is_not zero (suc m) e = absurd (cc)
ltn_is_not (suc n) (suc m) e = omega (arith, ltn_is_not n m e)

pub ltn_is : (n m : ℕ) → ltn n m ≡ true → n < m
ltn_is n zero e = absurd (cc)
ltn_is zero (suc m) e = omega arith
ltn_is (suc n) (suc m) e = omega (arith, ltn_is n m e)

pub ltn_yes : (n m : ℕ) → n < m → ltn n m ≡ true
ltn_yes n zero h = absurd (omega (arith, h))
ltn_yes zero (suc m) h = refl
ltn_yes (suc n) (suc m) h = ltn_yes n m (omega (arith, h))

pub ltn_no : (n m : ℕ) → m ≤ n → ltn n m ≡ false
ltn_no n zero h = refl
ltn_no zero (suc m) h = absurd (omega (arith, h))
ltn_no (suc n) (suc m) h = ltn_no n m (omega (arith, h))

pub nth_is : {A : Type 0} (xs : List A) (n : ℕ) → nth xs n ≡ slice_get xs n
nth_is [] n = refl
nth_is (x ∷ xs) zero = refl
nth_is (x ∷ xs) (suc n) = nth_is xs n

pub nth_map : {A B : Type 0} (f : A → B) (xs : List A) (n : ℕ) → nth (map f xs) n ≡ option_map f (nth xs n)
nth_map f [] n = refl
nth_map f (x ∷ xs) zero = refl
nth_map f (x ∷ xs) (suc n) = nth_map f xs n

pub nth_within : {A : Type 0} (xs : List A) (e : ℕ) (x : A) → nth xs e ≡ Some x → e < length xs
nth_within [] e x k = absurd (cc)
nth_within (y ∷ xs) zero x k = omega arith
nth_within (y ∷ xs) (suc e) x k = let within = nth_within xs e x k in omega (arith, within)

pub nth_past : {A : Type 0} (xs : List A) (n : ℕ) → length xs ≤ n → nth xs n ≡ None
nth_past [] n low = refl
nth_past (x ∷ xs) zero low = absurd (omega arith)
nth_past (x ∷ xs) (suc n) low = nth_past xs n (omega arith)

pub nth_first : {A : Type 0} (xs ys : List A) (i : ℕ) (x : A) → nth xs i ≡ Some x → nth (xs ++ ys) i ≡ Some x
nth_first [] ys i x e = cc
nth_first (z ∷ xs) ys zero x e = e
nth_first (z ∷ xs) ys (suc i) x e = nth_first xs ys i x e

pub slice_is : {A : Type 0} (xs : List A) (n : ℕ) → slice_get xs n ≡ nth xs n
slice_is [] n = refl
slice_is (x ∷ xs) zero = refl
slice_is (x ∷ xs) (suc n) = slice_is xs n
