-- Locals that are written.
use Rattle.std.proofs.Common.{◌≡◌, ◌≢◌, ℕ, zero, suc, ◌<◌, ◌≤◌, List, [], ◌∷◌, length, Option, Some, refl, ap, subst, arith}
use Rattle.std.proofs.lemmas.Option.{same_Some, none-some}
use Rattle.std.specs.Prelude.{option_map}
use Rattle.verse_sorts.specs.Sorts as s
use Rattle.verse_sorts.specs.Sorts.{Sort, Fits}
use Rattle.verse_sorts.specs.Typing.{at, AllFit, fit_no, fit_so}
use Rattle.verse_code_machine.specs.Frames.{put}
use Rattle.lower_notes.specs.States.{with_local, local_in}

pub local_is : (ls : List Sort) (l : ℕ) {a : Sort} → at ls l ≡ Some a → local_in ls l ≡ a
local_is [] l e = absurd (none-some _ e)
local_is (b ∷ ls) zero e = same_Some b _ e
local_is (b ∷ ls) (suc l) e = local_is ls l e

pub put_is : (ls : List Sort) (l : ℕ) (a : Sort) → l < length ls → put ls l a ≡ Some (with_local l a ls)
put_is [] l a h = absurd (omega (arith, h))
put_is (b ∷ ls) zero a h = refl
put_is (b ∷ ls) (suc l) a h = ap (option_map (λ zs. b ∷ zs)) (put_is ls l a (omega (arith, h)))

pub with_many : (l : ℕ) (a : Sort) (ls : List Sort) → length (with_local l a ls) ≡ length ls
with_many l a [] = refl
with_many zero a (b ∷ ls) = refl
with_many (suc l) a (b ∷ ls) = ap suc (with_many l a ls)

pub with_here : (l : ℕ) (a : Sort) (ls : List Sort) → l < length ls → at (with_local l a ls) l ≡ Some a
with_here l a [] h = absurd (omega (arith, h))
with_here zero a (b ∷ ls) h = refl
with_here (suc l) a (b ∷ ls) h = with_here l a ls (omega (arith, h))

pub with_other : (l k : ℕ) (a : Sort) (ls : List Sort) → k ≢ l → at (with_local l a ls) k ≡ at ls k
with_other l k a [] h = refl
with_other zero zero a (b ∷ ls) h = absurd (h refl)
with_other zero (suc k) a (b ∷ ls) h = refl
with_other (suc l) zero a (b ∷ ls) h = refl
with_other (suc l) (suc k) a (b ∷ ls) h = with_other l k a ls (λ e. h (ap suc e))

pub is_at : {A : Type 0} (xs : List A) (l : ℕ) → l < length xs → (x : A) × (at xs l ≡ Some x)
is_at [] l h = absurd (omega (arith, h))
is_at (x ∷ xs) zero h = (x, refl)
is_at (x ∷ xs) (suc l) h = is_at xs l (omega (arith, h))

module _ (up : ℕ → Option ℕ) where
  -- each local fits
  pub fits_each : (xs ys : List Sort) → length xs ≡ length ys →
      ((l : ℕ) (a b : Sort) → at xs l ≡ Some a → at ys l ≡ Some b → Fits up a b) → AllFit up xs ys
  fits_each [] [] e h = fit_no
  fits_each [] (y ∷ ys) e h = absurd (cc)
  fits_each (x ∷ xs) [] e h = absurd (cc)
  fits_each (x ∷ xs) (y ∷ ys) e h = fit_so (h 0 x y refl refl) (fits_each xs ys (omega (arith, e)) (λ l a b. h (suc l) a b))

  pub fits_there : {xs ys : List Sort} (l : ℕ) {a b : Sort} → AllFit up xs ys → at xs l ≡ Some a → at ys l ≡ Some b → Fits up a b
  fits_there l fit_no e i = absurd (none-some _ e)
  fits_there zero (fit_so f r) e i = two _ _ _ _ f (same_Some _ _ e) (same_Some _ _ i)
    where
      two : (a b c d : Sort) → Fits up a b → a ≡ c → b ≡ d → Fits up c d
      two a b c d f e i = subst (λ z. Fits up z d) e (subst (λ z. Fits up a z) i f)
  fits_there (suc l) (fit_so f r) e i = fits_there l r e i

-- no more is known of the locals from n on
abbrev pub Blank : ℕ → List Sort → Type 0
Blank n ls = (l : ℕ) (q : Sort) → n ≤ l → at ls l ≡ Some q → q ≡ s.none
