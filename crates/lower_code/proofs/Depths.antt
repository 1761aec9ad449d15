-- How deep the labels of items reach, and how many items there are.
use Rattle.std.proofs.Common.{◌≡◌, List, [], ◌∷◌, ◌++◌, max, arith, ℕ, refl, zero, suc, map, length, ap, ◌+◌}
use Rattle.verse_code.specs.declared.operations.Op.TheVariants as o
use Rattle.lower_code.specs.Pieces.{Item, sure, leaving, deepest, arms_at, drops, closed}

pub deepest_more : (xs ys : List Item) → deepest (xs ++ ys) ≡ max (deepest xs) (deepest ys)
deepest_more [] ys = omega arith
deepest_more (sure op ∷ xs) ys = deepest_more xs ys
deepest_more (leaving n ∷ xs) ys = omega (arith, deepest_more xs ys)

pub arms_shallow : (ls : List ℕ) (is : List Item) → deepest (arms_at ls is) ≡ deepest is
arms_shallow [] is = refl
arms_shallow (l ∷ ls) is = arms_shallow ls is

pub drops_shallow : (d : ℕ) → deepest (drops d (sure o.Unit ∷ [])) ≡ 0
drops_shallow zero = refl
drops_shallow (suc d) = drops_shallow d

pub closed_shallow : (out : ℕ) (is : List Item) → deepest (map (closed out) is) ≡ 0
closed_shallow out [] = refl
closed_shallow out (sure op ∷ is) = closed_shallow out is
closed_shallow out (leaving n ∷ is) = closed_shallow out is

pub closed_length : (out : ℕ) (is : List Item) → length (map (closed out) is) ≡ length is
closed_length out [] = refl
closed_length out (i ∷ is) = ap suc (closed_length out is)

pub arms_length : (ls : List ℕ) (is : List Item) → length (arms_at ls is) ≡ length ls + length is
arms_length [] is = omega arith
arms_length (l ∷ ls) is = omega (arith, arms_length ls is)
