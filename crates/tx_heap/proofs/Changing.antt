-- What undoes a change.
use Rattle.std.proofs.Common.{◌≡◌, ℤ, true, List, [], ◌∷◌, length, Option, Some, None, IsSome, IfSome, OnSome, refl, sym, ap, subst, ◌∙◌}
use Rattle.std.proofs.Common.{arith}
use Rattle.std.specs.Option.{is_some}
use Rattle.std.proofs.lemmas.List.{length_push, take_at}
use Rattle.verse_value.specs.Val.{Val, int}
use Rattle.verse_value.specs.View.{val_of, vals_of}
use Rattle.verse_value.specs.Store.{Cell, Store, slot_of, stored, with_cell}
use Rattle.verse_value_writes.specs.Writes.{undone}
use Rattle.verse_value.specs.declared.values.Value.{Value}
use Rattle.verse_value_writes.specs.declared.writes.Undo.{Undo}
use Rattle.verse_cells.specs.Changes.{InCell, IsUndone, CanUndoIn, HoldsInt}
use Rattle.verse_cells.specs.declared.slots.Address.{Address}
use Rattle.verse_cells.proofs.Stored.{slot_stored, stored_back}
use Rattle.tx_heap.specs.Undo.{back, changed, CanGoBack, UndoneBy}
use Rattle.tx_heap.specs.declared.entries.Entry.TheVariants as entry

pub set_goes : (cells after : Store) (at : Address) (old : Value) (value : Val) → after ≡ stored cells at.cell at.slot value →
    slot_of cells at.cell at.slot ≡ Some (val_of old) → back (entry.Slot at old) after ≡ cells
set_goes cells after at old value e there =
    ap (λ (s : Store). stored s at.cell at.slot (val_of old)) e ∙ stored_back cells at.cell at.slot (val_of old) value there

pub set_can : (cells after : Store) (at : Address) (old : Value) (value : Val) → after ≡ stored cells at.cell at.slot value →
    slot_of cells at.cell at.slot ≡ Some (val_of old) → CanGoBack (entry.Slot at old) after
set_can cells after at old value e there =
    let P : Option Val → Type 0 = λ o. IsSome o in
    subst P (sym (ap (λ (s : Store). slot_of s at.cell at.slot) e ∙ slot_stored cells at.cell at.slot (val_of old) value there)) refl

pub push_goes : (cells after : Store) (c : Cell) → after ≡ with_cell cells c → back entry.Added after ≡ cells
push_goes cells after c e = ap (back entry.Added) e ∙ take_at cells (c ∷ []) _ (omega (arith, length_push cells c))

pub push_can : (cells after : Store) (c : Cell) → after ≡ with_cell cells c → CanGoBack entry.Added after
push_can cells after c e = omega (arith, ap length e, length_push cells c)

written_there : (at : Address) (path : List Val) (undo : Undo) (before after : Store) →
    (w : InCell at.cell at.slot (UndoneBy path undo) before after) → slot_of after at.cell at.slot ≡ Some w.to
written_there at path undo before after w =
    ap (λ (s : Store). slot_of s at.cell at.slot) w.cells ∙ slot_stored before at.cell at.slot w.from w.to w.there

written_goes : (at : Address) (path : List Val) (undo : Undo) (before after : Store) →
    InCell at.cell at.slot (UndoneBy path undo) before after → changed (slot_of after at.cell at.slot) at (undone path undo) after ≡ before
written_goes at path undo before after w =
    ap (λ (o : Option Val). changed o at (undone path undo) after) (written_there at path undo before after w) ∙
    (ap (λ (v : Val). stored after at.cell at.slot v) w.goes.back ∙
    (ap (λ (s : Store). stored s at.cell at.slot w.from) w.cells ∙ stored_back before at.cell at.slot w.from w.to w.there))

written_can : (at : Address) (path : List Val) (undo : Undo) (before after : Store) →
    InCell at.cell at.slot (UndoneBy path undo) before after → CanUndoIn path undo (slot_of after at.cell at.slot)
written_can at path undo before after w =
    subst (CanUndoIn path undo) (sym (written_there at path undo before after w)) w.goes.can_undo

pub write_goes : (at : Address) (path kept : List Value) (undo : Undo) (before after : Store) → vals_of kept ≡ vals_of path →
    InCell at.cell at.slot (UndoneBy (vals_of path) undo) before after → back (entry.Part at kept undo) after ≡ before
write_goes at path kept undo before after same w =
    let P : List Val → Type 0 = λ p. changed (slot_of after at.cell at.slot) at (undone p undo) after ≡ before in
    subst P (sym same) (written_goes at (vals_of path) undo before after w)

pub write_can : (at : Address) (path kept : List Value) (undo : Undo) (before after : Store) → vals_of kept ≡ vals_of path →
    InCell at.cell at.slot (UndoneBy (vals_of path) undo) before after → CanGoBack (entry.Part at kept undo) after
write_can at path kept undo before after same w =
    let P : List Val → Type 0 = λ p. CanUndoIn p undo (slot_of after at.cell at.slot) in
    subst P (sym same) (written_can at (vals_of path) undo before after w)

pub taken_back : (at : Address) (path : List Value) (undo : Undo) (before after : Store) →
    InCell at.cell at.slot (IsUndone (vals_of path) undo) before after → after ≡ back (entry.Part at path undo) before
taken_back at path undo before after w =
    w.cells ∙ (ap (λ (v : Val). stored before at.cell at.slot v) w.goes ∙
    sym (ap (λ (o : Option Val). changed o at (undone (vals_of path) undo) before) w.there))

-- the int that a slot held
pub held_some : (o : Option ℤ) (slot : Option Val) → IfSome o (λ n. slot ≡ Some (int n)) → is_some o ≡ true → HoldsInt slot
held_some None slot held e = absurd (cc)
held_some (Some n) slot held e = (n, held)

pub some_of : {P : Type 0} (o : Option ℤ) (n : ℤ) → o ≡ Some n → OnSome o P → P
some_of None n is p = absurd (cc)
some_of (Some m) n is p = p
