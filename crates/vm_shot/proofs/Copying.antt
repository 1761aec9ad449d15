-- Cells and slots, one after another.
use Rattle.std.proofs.Common.{◌≡◌, ℕ, zero, suc, ◌+◌, ◌<◌, ◌≤◌, List, [], ◌∷◌, ◌++◌, Option, Some, None, length, take}
use Rattle.std.proofs.Common.{map, refl, sym, ap, subst}
use Rattle.std.proofs.Common.{◌∙◌, arith}
use Rattle.std.proofs.lemmas.List.{map-append}
use Rattle.std.specs.Prelude.{slice_get, option_map, option_and_then, unwrap_or, IsSome}
use Rattle.std.proofs.lemmas.Option.{same_Some}
use Rattle.verse_base.proofs.Facts.{some_within}
use Rattle.verse_code.specs.declared.codes.Class.{Class}
use Rattle.verse_value.specs.Val.{Val}
use Rattle.verse_value.specs.Store.{Cell, Store, slot_of}
use Rattle.verse_value.specs.declared.runs.CellKind.{CellKind}
use Rattle.verse_code_machine.specs.Belonging.{StoreBelongs, slots_of}
use Rattle.vm_shot.specs.Cells.{slots_at, HasSlots}

module _ {A : Type 0} where
  take_next : (xs : List A) (n : ℕ) (x : A) → slice_get xs n ≡ Some x → take (suc n) xs ≡ take n xs ++ x ∷ []
  take_next [] n x e = absurd (cc)
  take_next (y ∷ ys) zero x e = ap (λ w. w ∷ []) (same_Some _ _ e)
  take_next (y ∷ ys) (suc n) x e = ap (λ w. y ∷ w) (take_next ys n x e)

  pub one_taken : (xs ys : List A) (n : ℕ) (x : A) → slice_get xs n ≡ Some x → ys ≡ take n xs → ys ++ x ∷ [] ≡ take (n + 1) xs
  one_taken xs ys n x e so =
      let next : n + 1 ≡ suc n = omega arith in
      ap (λ w. w ++ x ∷ []) so ∙ (sym (take_next xs n x e) ∙ ap (λ k. take k xs) (sym next))

  -- one more is copied
  pub one_copied : {B : Type 0} (f : B → A) (all : List A) (xs ys : List B) (x : B) (n : ℕ) → slice_get all n ≡ Some (f x) →
      ys ≡ xs ++ x ∷ [] → map f xs ≡ take n all → map f ys ≡ take (n + 1) all
  one_copied f all xs ys x n e more so = ap (map f) more ∙ (map-append f xs (x ∷ []) ∙ one_taken all (map f xs) n (f x) e so)

  take_length : (xs : List A) → take (length xs) xs ≡ xs
  take_length [] = refl
  take_length (x ∷ xs) = ap (λ w. x ∷ w) (take_length xs)

  pub all_taken : (xs ys : List A) (n k : ℕ) → k ≡ length xs → k ≤ n → n ≤ k → ys ≡ take n xs → ys ≡ xs
  all_taken xs ys n k e low high so =
      let same : n ≡ length xs = omega (arith, e, low, high) in so ∙ (ap (λ k. take k xs) same ∙ take_length xs)

-- a cell has the slots of its kind
cell_belongs : (cs : List Class) (cells : Store) (n : ℕ) (c : Cell) → StoreBelongs cs cells → slice_get cells n ≡ Some c →
    slots_of cs c.kind ≡ Some (length c.slots)
cell_belongs cs [] n c b e = absurd (cc)
cell_belongs cs (d ∷ cells) zero c b e = subst (λ c. slots_of cs c.kind ≡ Some (length c.slots)) (same_Some _ _ e) b.0
cell_belongs cs (d ∷ cells) (suc n) c b e = cell_belongs cs cells n c b.1 e

pub slots_counted : (cs : List Class) (cells : Store) (n count : ℕ) (k : CellKind) → StoreBelongs cs cells →
    option_map (λ (c : Cell). c.kind) (slice_get cells n) ≡ Some k → ((m : ℕ) → slots_of cs k ≡ Some m → count ≡ m) → HasSlots cells n count
slots_counted cs cells n count k b e f = by_cell (slice_get cells n) refl e
  where
    by_cell : (o : Option Cell) → slice_get cells n ≡ o → option_map (λ (c : Cell). c.kind) o ≡ Some k →
        option_map (λ (c : Cell). length c.slots) o ≡ Some count
    by_cell None g h = absurd (cc)
    by_cell (Some c) g h = ap Some (sym (f (length c.slots) (ap (slots_of cs) (sym (same_Some _ _ h)) ∙ cell_belongs cs cells n c b g)))

-- a cell is made of its kind and its slots
pub cell_made : (o : Option Cell) (k : CellKind) (vs : List Val) → option_map (λ (c : Cell). c.kind) o ≡ Some k →
    option_map (λ (c : Cell). c.slots) o ≡ Some vs → o ≡ Some (record { kind = k; slots = vs })
cell_made None k vs e f = absurd (cc)
cell_made (Some c) k vs e f =
    ap Some (ap (λ (k : CellKind). record { kind = k; slots = c.slots }) (same_Some _ _ e) ∙
    ap (λ (vs : List Val). record { kind = k; slots = vs }) (same_Some _ _ f))

module _ (cells : Store) (n count : ℕ) (has : HasSlots cells n count) where
  slots_are : (count ≡ length (slots_at cells n)) × (option_map (λ (c : Cell). c.slots) (slice_get cells n) ≡ Some (slots_at cells n))
  slots_are = by_cell (slice_get cells n) refl has
    where
      by_cell : (o : Option Cell) → slice_get cells n ≡ o → option_map (λ (c : Cell). length c.slots) o ≡ Some count →
          (count ≡ length (unwrap_or (option_map (λ (c : Cell). c.slots) o) [])) × (option_map (λ (c : Cell). c.slots) o ≡ Some (unwrap_or
          (option_map (λ (c : Cell). c.slots) o) []))
      by_cell None g h = absurd (cc)
      by_cell (Some c) g h = (sym (same_Some _ _ h), refl)

  pub slots_over : (vs : List Val) (k : ℕ) → count ≤ k → k ≤ count → vs ≡ take k (slots_at cells n) →
      option_map (λ (c : Cell). c.slots) (slice_get cells n) ≡ Some vs
  slots_over vs k low high so =
      slots_are.1 ∙ ap Some (sym (all_taken (slots_at cells n) vs k count slots_are.0 low high so))

  pub slot_there : (k : ℕ) → k < count → IsSome (slot_of cells n k)
  slot_there k low = by_cell (slice_get cells n) has
    where
      by_cell : (o : Option Cell) → option_map (λ (c : Cell). length c.slots) o ≡ Some count →
          IsSome (option_and_then (λ (c : Cell). slice_get c.slots k) o)
      by_cell None g = absurd (cc)
      by_cell (Some c) g = let few : length c.slots ≡ count = same_Some _ _ g in some_within c.slots k (omega (arith, low, few))

pub slot_is : (cells : Store) (n slot : ℕ) (v : Val) → slot_of cells n slot ≡ Some v → slice_get (slots_at cells n) slot ≡ Some v
slot_is cells n slot v e = by_cell (slice_get cells n) e
  where
    by_cell : (o : Option Cell) → option_and_then (λ (c : Cell). slice_get c.slots slot) o ≡ Some v → slice_get (unwrap_or
        (option_map (λ (c : Cell). c.slots) o) []) slot ≡ Some v
    by_cell None e = absurd (cc)
    by_cell (Some c) e = e

pub slot_taken : (cells : Store) (n slot : ℕ) (v : Val) (vs : List Val) → slot_of cells n slot ≡ Some v →
    vs ≡ take slot (slots_at cells n) → vs ++ v ∷ [] ≡ take (slot + 1) (slots_at cells n)
slot_taken cells n slot v vs e so = one_taken (slots_at cells n) vs slot v (slot_is cells n slot v e) so
