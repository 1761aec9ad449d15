-- Changes of one slot, from a list of values to a list of cells.
use Rattle.std.proofs.Common.{◌≡◌, false, true, ◌<◌, ℕ, zero, suc, List, [], ◌∷◌, length, get_or, set, Option, Some, IsSome}
use Rattle.std.proofs.Common.{refl, ap, sym, arith, ◌∙◌}
use Rattle.std.specs.List.{slice_get}
use Rattle.std.specs.Option.{option_map, option_and_then}
use Rattle.std.proofs.lemmas.List.{map-set}
use Rattle.std.proofs.lemmas.Option.{slice_get-map, slice_get-get_or}
use Rattle.verse_value.specs.Val.{Val}
use Rattle.verse_value.specs.View.{val_of, vals_of}
use Rattle.verse_value.specs.Store as store
use Rattle.verse_value.specs.Store.{Store, slot_of, stored, with_slot, with_cell_slot}
use Rattle.verse_value.specs.declared.values.Value.{Value}
use Rattle.verse_value.specs.declared.runs.CellKind.{CellKind}
use Rattle.verse_value_writes.specs.declared.writes.Undo.{Undo}
use Rattle.verse_cells.specs.View.{cell_of, cells_of}
use Rattle.verse_cells.specs.Changes.{InSlot, InCell, CanUndoIn}
use Rattle.verse_cells.specs.declared.slots.Cell.{Cell}

set_same : {A : Type 0} (xs : List A) (i : ℕ) (x : A) → slice_get xs i ≡ Some x → set xs i x ≡ xs
set_same [] i x e = refl
set_same (y ∷ xs) zero x e = cc
set_same (y ∷ xs) (suc i) x e = ap (λ zs. y ∷ zs) (set_same xs i x e)

pub read_part : (vs : List Value) (i : ℕ) (x : Value) → slice_get vs i ≡ Some x → slice_get (vals_of vs) i ≡ Some (val_of x)
read_part vs i x e = slice_get-map val_of vs i ∙ ap (λ (o : Option Value). option_map val_of o) e

pub in_slot : (slot : ℕ) (Goes : Val → Val → Type 0) (vs : List Value) (x y : Value) → slice_get vs slot ≡ Some x →
    Goes (val_of x) (val_of y) → InSlot slot Goes (vals_of vs) (vals_of (set vs slot y))
in_slot slot Goes vs x y e goes = record {
  from = val_of x;
  to = val_of y;
  there = read_part vs slot x e;
  goes = goes;
  slots = map-set val_of vs slot y;
}

pub same_slots : (slot : ℕ) (vs : List Value) (x y : Value) → slice_get vs slot ≡ Some x → val_of y ≡ val_of x →
    vals_of (set vs slot y) ≡ vals_of vs
same_slots slot vs x y e same =
    map-set val_of vs slot y ∙ (ap (λ (v : Val). set (vals_of vs) slot v) same ∙
    set_same (vals_of vs) slot (val_of x) (read_part vs slot x e))

pub cell_there : (cells : List Cell) (cell slot : ℕ) → IsSome (slot_of (cells_of cells) cell slot) → cell < length cells
cell_there [] cell slot h =
    let bad : false ≡ true = h in cc
cell_there (c ∷ cells) zero slot h = omega arith
cell_there (c ∷ cells) (suc cell) slot h = let l = cell_there cells cell slot h in omega arith

pub cell_undo : (path : List Val) (undo : Undo) (cells : List Cell) (cell slot : ℕ) →
    CanUndoIn path undo (slot_of (cells_of cells) cell slot) → cell < length cells
cell_undo path undo [] cell slot h = absurd h
cell_undo path undo (c ∷ cells) zero slot h = omega arith
cell_undo path undo (c ∷ cells) (suc cell) slot h = let l = cell_undo path undo cells cell slot h in omega arith

read_cell : (cells : List Cell) (cell : ℕ) (x : Cell) → cell < length cells →
    slice_get (cells_of cells) cell ≡ Some (cell_of (get_or cells cell x))
read_cell cells cell x h =
    slice_get-map cell_of cells cell ∙ ap (λ (o : Option Cell). option_map cell_of o) (slice_get-get_or cells cell x h)

pub read_slot : (cells : List Cell) (cell slot : ℕ) (x : Cell) → cell < length cells →
    slot_of (cells_of cells) cell slot ≡ slice_get (vals_of (get_or cells cell x).slots) slot
read_slot cells cell slot x h =
    ap (λ (o : Option store.Cell). option_and_then (λ (c : store.Cell). slice_get c.slots slot) o) (read_cell cells cell x h)

abbrev made : CellKind → List Val → store.Cell
made kind slots = record { kind = kind; slots = slots }

abbrev pub with_slots : List Cell → ℕ → Cell → List Value → List Cell
with_slots cells cell x slots = set cells cell (record { kind = (get_or cells cell x).kind; slots = slots })

pub stored_cells : (cell slot : ℕ) (cells : List Cell) (x : Cell) (slots : List Value) (to : Val) → cell < length cells →
    vals_of slots ≡ set (vals_of (get_or cells cell x).slots) slot to →
    cells_of (with_slots cells cell x slots) ≡ stored (cells_of cells) cell slot to
stored_cells cell slot cells x slots to h new =
    let read = read_cell cells cell x h in
    let one = ap (λ (vs : List Val). made (get_or cells cell x).kind vs) new in
    let all = map-set cell_of cells cell (record { kind = (get_or cells cell x).kind; slots = slots }) in
    all ∙ (ap (λ (c : store.Cell). set (cells_of cells) cell c) one ∙
    ap (λ (o : Option store.Cell). with_cell_slot o (cells_of cells) cell slot to) (sym read))

pub in_cell : (cell slot : ℕ) (Goes : Val → Val → Type 0) (cells : List Cell) (x : Cell) (slots : List Value) → cell < length cells →
    InSlot slot Goes (vals_of (get_or cells cell x).slots) (vals_of slots) →
    InCell cell slot Goes (cells_of cells) (cells_of (with_slots cells cell x slots))
in_cell cell slot Goes cells x slots h w = record {
  from = w.from;
  to = w.to;
  there = read_slot cells cell slot x h ∙ w.there;
  goes = w.goes;
  cells = stored_cells cell slot cells x slots w.to h w.slots;
}

pub same_cells : (cell : ℕ) (cells : List Cell) (x : Cell) (slots : List Value) → cell < length cells →
    vals_of slots ≡ vals_of (get_or cells cell x).slots → cells_of (with_slots cells cell x slots) ≡ cells_of cells
same_cells cell cells x slots h same =
    let one = ap (λ (vs : List Val). made (get_or cells cell x).kind vs) same in
    let all = map-set cell_of cells cell (record { kind = (get_or cells cell x).kind; slots = slots }) in
    all ∙ (ap (λ (c : store.Cell). set (cells_of cells) cell c) one ∙ set_same (cells_of cells) cell (cell_of (get_or cells cell x))
    (read_cell cells cell x h))
