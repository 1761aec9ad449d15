-- Lists that a loop has walked up to a place.
use native.Mathlib.Numerals.{unary_clauses}
use Rattle.std.proofs.Common.{◌≡◌, ℕ, zero, suc, ◌+◌, ◌<◌, List, [], ◌∷◌, ◌++◌, take, drop, map, length, get_or, set, refl, ap, arith}

-- one more item is mapped in place
pub mapped_more : {X : Type 0} (f : X → X) (xs : List X) (i : ℕ) (d : X) → i < length xs →
    set (map f (take i xs) ++ drop i xs) i (f (get_or (map f (take i xs) ++ drop i xs) i d)) ≡ map f (take (i + 1) xs) ++ drop (i + 1) xs
mapped_more f [] i d lt = absurd (omega arith)
mapped_more f (x ∷ xs) zero d lt = refl
mapped_more f (x ∷ xs) (suc i) d lt = let more = simp unary_clauses at (mapped_more f xs i d (omega arith)) in
    simp unary_clauses (ap (λ ys. f x ∷ ys) more)
