-- A slot that is changed, and changed back.
use Rattle.std.proofs.Common.{◌≡◌, ℕ, zero, suc, List, [], ◌∷◌, set, Option, Some, None, refl, ap, ◌∙◌}
use Rattle.std.specs.List.{slice_get}
use Rattle.std.specs.Option.{option_and_then}
use Rattle.verse_value.specs.Val.{Val}
use Rattle.verse_value.specs.Store.{Cell, Store, slot_of, stored, with_slot, with_cell_slot}

read_set : {A : Type 0} (xs : List A) (i : ℕ) (x y : A) → slice_get xs i ≡ Some x → slice_get (set xs i y) i ≡ Some y
read_set [] i x y e = cc
read_set (z ∷ xs) zero x y e = refl
read_set (z ∷ xs) (suc i) x y e = read_set xs i x y e

set_back : {A : Type 0} (xs : List A) (i : ℕ) (x y : A) → slice_get xs i ≡ Some x → set (set xs i y) i x ≡ xs
set_back [] i x y e = refl
set_back (z ∷ xs) zero x y e = cc
set_back (z ∷ xs) (suc i) x y e = ap (λ (zs : List _). z ∷ zs) (set_back xs i x y e)

slot_stored_at : (s : Store) (cell slot : ℕ) (from to : Val) (o : Option Cell) → slice_get s cell ≡ o →
    option_and_then (λ (c : Cell). slice_get c.slots slot) o ≡ Some from → slot_of (with_cell_slot o s cell slot to) cell slot ≡ Some to
slot_stored_at s cell slot from to None at e = cc
slot_stored_at s cell slot from to (Some c) at e =
    ap (λ (o : Option Cell). option_and_then (λ (c : Cell). slice_get c.slots slot) o) (read_set s cell c (with_slot c slot to) at) ∙
    read_set c.slots slot from to e

stored_back_at : (s : Store) (cell slot : ℕ) (from to : Val) (o : Option Cell) → slice_get s cell ≡ o →
    option_and_then (λ (c : Cell). slice_get c.slots slot) o ≡ Some from → stored (with_cell_slot o s cell slot to) cell slot from ≡ s
stored_back_at s cell slot from to None at e = cc
stored_back_at s cell slot from to (Some c) at e =
    let new = with_slot c slot to in
    let one : with_slot new slot from ≡ c = ap (λ (vs : List Val). record c { slots = vs }) (set_back c.slots slot from to e) in
    ap (λ (o : Option Cell). with_cell_slot o (set s cell new) cell slot from) (read_set s cell c new at) ∙
    (ap (λ (d : Cell). set (set s cell new) cell d) one ∙ set_back s cell c new at)

-- a slot holds what was put there
pub slot_stored : (s : Store) (cell slot : ℕ) (from to : Val) → slot_of s cell slot ≡ Some from →
    slot_of (stored s cell slot to) cell slot ≡ Some to
slot_stored s cell slot from to e = slot_stored_at s cell slot from to (slice_get s cell) refl e

-- what a slot held goes back
pub stored_back : (s : Store) (cell slot : ℕ) (from to : Val) → slot_of s cell slot ≡ Some from →
    stored (stored s cell slot to) cell slot from ≡ s
stored_back s cell slot from to e = stored_back_at s cell slot from to (slice_get s cell) refl e
