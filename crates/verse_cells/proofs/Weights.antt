-- The weights of slots, cells and stores.
use Rattle.std.proofs.Common.{◌≡◌, ◌≤◌, ◌+◌, ℕ, zero, suc, List, [], ◌∷◌, length, Option, Some, None, refl, ap, arith}
use Rattle.std.specs.List.{slice_get, slice_set}
use Rattle.std.specs.Option.{option_and_then}
use Rattle.verse_value.specs.Val.{Val, vals}
use Rattle.verse_value.specs.Sizes.{weight_of, weights}
use Rattle.verse_value.specs.Store.{Cell, Store, cell_weight, store_weight, slot_of, stored, with_slot, with_cell_slot, with_cell}

weights_set : (vs : List Val) (i : ℕ) (v w : Val) → slice_get vs i ≡ Some v →
    weights (vals (slice_set vs i w)) + weight_of v ≡ weights (vals vs) + weight_of w
weights_set [] i v w e = cc
weights_set (x ∷ vs) zero v w e =
    let same : x ≡ v = cc in omega (arith, ap weight_of same)
weights_set (x ∷ vs) (suc i) v w e =
    let rest = weights_set vs i v w e in omega (arith, rest)

weights_get : (vs : List Val) (i : ℕ) (v : Val) → slice_get vs i ≡ Some v → weight_of v ≤ weights (vals vs)
weights_get [] i v e = cc
weights_get (x ∷ vs) zero v e =
    let same : x ≡ v = cc in omega (arith, ap weight_of same)
weights_get (x ∷ vs) (suc i) v e =
    let rest = weights_get vs i v e in omega (arith, rest)

store_weight_set : (s : Store) (i : ℕ) (c d : Cell) → slice_get s i ≡ Some c →
    store_weight (slice_set s i d) + cell_weight c ≡ store_weight s + cell_weight d
store_weight_set [] i c d e = cc
store_weight_set (x ∷ s) zero c d e =
    let same : x ≡ c = cc in omega (arith, ap cell_weight same)
store_weight_set (x ∷ s) (suc i) c d e =
    let rest = store_weight_set s i c d e in omega (arith, rest)

store_weight_get : (s : Store) (i : ℕ) (c : Cell) → slice_get s i ≡ Some c → cell_weight c ≤ store_weight s
store_weight_get [] i c e = cc
store_weight_get (x ∷ s) zero c e =
    let same : x ≡ c = cc in omega (arith, ap cell_weight same)
store_weight_get (x ∷ s) (suc i) c e =
    let rest = store_weight_get s i c e in omega (arith, rest)

stored_at : (s : Store) (cell slot : ℕ) (from to : Val) (o : Option Cell) → slice_get s cell ≡ o →
    option_and_then (λ (c : Cell). slice_get c.slots slot) o ≡ Some from → store_weight (with_cell_slot o s cell slot to) + weight_of from ≡
    store_weight s + weight_of to
stored_at s cell slot from to None at e = cc
stored_at s cell slot from to (Some c) at e =
    omega (arith, store_weight_set s cell c (with_slot c slot to) at, weights_set c.slots slot from to e)

slot_at : (s : Store) (cell slot : ℕ) (from : Val) (o : Option Cell) → slice_get s cell ≡ o →
    option_and_then (λ (c : Cell). slice_get c.slots slot) o ≡ Some from → weight_of from ≤ store_weight s
slot_at s cell slot from None at e = cc
slot_at s cell slot from (Some c) at e =
    omega (arith, store_weight_get s cell c at, weights_get c.slots slot from e)

-- another value in a slot changes the sum by the difference of the two
pub store_weight_stored : (s : Store) (cell slot : ℕ) (from to : Val) → slot_of s cell slot ≡ Some from →
    store_weight (stored s cell slot to) + weight_of from ≡ store_weight s + weight_of to
store_weight_stored s cell slot from to e = stored_at s cell slot from to (slice_get s cell) refl e

-- a slot weighs no more than the store
pub slot_weight : (s : Store) (cell slot : ℕ) (from : Val) → slot_of s cell slot ≡ Some from → weight_of from ≤ store_weight s
slot_weight s cell slot from e = slot_at s cell slot from (slice_get s cell) refl e

-- a new cell adds its weight
pub store_weight_push : (s : Store) (c : Cell) → store_weight (with_cell s c) ≡ store_weight s + cell_weight c
store_weight_push [] c = omega arith
store_weight_push (x ∷ s) c = let rest = store_weight_push s c in omega (arith, rest)

-- each cell weighs something
pub length_store_weight : (s : Store) → length s ≤ store_weight s
length_store_weight [] = omega arith
length_store_weight (x ∷ s) = let rest = length_store_weight s in omega (arith, rest)
