-- The names of the operations, and the search for one.
use Rattle.std.proofs.Common.{◌≡◌, ℕ, zero, suc, ◌+◌, ◌≤◌, true, false, List, [], ◌∷◌, length, drop, Some, None, slice_get}
use Rattle.std.proofs.Common.{refl, sym, ap, ◌∙◌, arith}
use Rattle.std.specs.Prelude.{if◌then◌else◌}
use Rattle.verse_listing_format.specs.Names.{names, is_same, place_among, code_named}

pub names_are : length names ≡ 67
unfolding names
names_are = refl

-- a step of the search
pub among_step : (ns : List (List ℕ)) (i at : ℕ) (name word : List ℕ) → slice_get ns i ≡ Some name →
    place_among at (drop i ns) word ≡ (if is_same name word then Some at else place_among (suc at) (drop (suc i) ns) word)
unfolding place_among
among_step [] i at name word e = absurd cc
among_step (n ∷ ns) zero at name word e = let same : n ≡ name =
    cc in ap (λ m. if is_same m word then Some at else place_among (suc at) ns word) same
among_step (n ∷ ns) (suc i) at name word e = among_step ns i at name word e

pub found_at : (i : ℕ) (name word : List ℕ) → slice_get names i ≡ Some name → is_same name word ≡ true →
    place_among i (drop i names) word ≡ code_named word → code_named word ≡ Some i
found_at i name word e t h = sym h ∙ among_step names i i name word e ∙ rw t refl

pub not_at : (i : ℕ) (name word : List ℕ) → slice_get names i ≡ Some name → is_same name word ≡ false →
    place_among i (drop i names) word ≡ code_named word → place_among (i + 1) (drop (i + 1) names) word ≡ code_named word
not_at i name word e t h = let k : suc i ≡ i + 1 = omega arith in
    sym (among_step names i i name word e ∙ rw (t, k) refl) ∙ h

none_left : (ns : List (List ℕ)) (i at : ℕ) (word : List ℕ) → length ns ≤ i → place_among at (drop i ns) word ≡ None
unfolding place_among
none_left [] zero at word le = refl
none_left [] (suc i) at word le = refl
none_left (n ∷ ns) zero at word le = absurd (omega arith)
none_left (n ∷ ns) (suc i) at word le = none_left ns i at word (omega arith)

pub not_found : (i : ℕ) (word : List ℕ) → 67 ≤ i → place_among i (drop i names) word ≡ code_named word → code_named word ≡ None
not_found i word le h = sym h ∙ none_left names i i word (omega (arith, names_are))
