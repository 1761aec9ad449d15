-- The place of a name, counted from a number on.
use Rattle.std.proofs.Common.{◌≡◌, ℕ, suc, List, [], ◌∷◌, Bool, true, false, cond, refl, ap, ◌∙◌, sym}
use Rattle.std.specs.Prelude.{Option, Some}
use Rattle.verse_tree.specs.Tree.{Bytes}
use Rattle.verse_meaning.specs.Programs.{same_name, place_of, one_further}
use Rattle.lower_declared.specs.Enums.{place_from}

choice : (b : Bool) (n : ℕ) (o u : Option ℕ) → u ≡ one_further o → cond b (Some (suc n)) u ≡ one_further (cond b (Some n) o)
choice true n o u e = refl
choice false n o u e = e

shifted : (x : Bytes) (ys : List Bytes) (n : ℕ) → place_from x ys (suc n) ≡ one_further (place_from x ys n)
shifted x [] n = refl
shifted x (y ∷ ys) n = choice (same_name x y) n (place_from x ys (suc n)) (place_from x ys (suc (suc n))) (shifted x ys (suc n))

pub place_is : (x : Bytes) (ys : List Bytes) → place_of x ys ≡ place_from x ys 0
place_is x [] = refl
place_is x (y ∷ ys) = ap (cond (same_name x y) (Some 0)) (ap one_further (place_is x ys) ∙ sym (shifted x ys 0))
