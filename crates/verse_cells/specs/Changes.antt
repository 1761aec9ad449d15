-- Changes of one slot.
use Rattle.std.specs.Prelude.{◌≡◌, ◌≢◌, ℕ, ℤ, ◌+◌, min, nat_le, List, take, length, ◌-◌, Option}
use Rattle.std.specs.Prelude.{Some, None, option_map, Result, Ok, Err}
use Rattle.std.specs.Prelude.{if◌then◌else◌, slice_get, slice_set}
use Rattle.verse_base.specs.declared.refusals.Kind.TheVariants as kind
use Rattle.verse_value.specs.Val.{Val, int}
use Rattle.verse_value.specs.View.{val_of}
use Rattle.verse_value.specs.Sizes.{weight_of}
use Rattle.verse_value.specs.Store.{Store, slot_of, stored}
use Rattle.verse_value_writes.specs.Writes.{written, undone, CanUndo}
use Rattle.verse_value.specs.declared.modes.Mode.{Mode}
use Rattle.verse_value_writes.specs.declared.writes.Undo.{Undo}
use Rattle.verse_value_writes.specs.declared.writes.WriteFault.{WriteFault}
use Rattle.verse_value_writes.specs.declared.writes.WriteFault.TheVariants.{Fault, Stuck}
use Rattle.verse_value.specs.declared.values.Value.{Value}
use Rattle.verse_cells.specs.declared.slots.Change.{Change}
use Rattle.verse_cells.specs.declared.slots.Wanted.{Wanted}
use Rattle.verse_cells.specs.declared.slots.Wanted.TheVariants.{Copy, Nothing}

-- a slot may grow by no more than the weight that is spare
abbrev pub spared : ℕ → Val → Result (Val × Val) WriteFault → Result (Val × Val) WriteFault
spared spare from (Ok w) = if nat_le (weight_of w.0) (weight_of from + spare) then Ok w else Err
    (Fault kind.Store)
spared spare from (Err fault) = Err fault

-- what a write in a slot comes to: its new value and the value written, or why there is neither
abbrev pub slot_written : ℕ → List Val → Mode → Val → Option Val → Result (Val × Val) WriteFault
slot_written spare path mode value None = Err Stuck
slot_written spare path mode value (Some from) = spared spare from (written path mode value from)

-- what is handed back of the value written: a copy, or nothing
abbrev pub IsWanted : Wanted → Option Value → Val → Type 0
IsWanted Copy copy wrote = option_map val_of copy ≡ Some wrote
IsWanted Nothing copy wrote = copy ≡ None

-- what a write hands out where the slot went from one value to another
pub record IsWrite (spare : ℕ) (path : List Val) (mode : Mode) (value : Val) (wanted : Wanted)
    (change : Change) (from to : Val) : Type 0 where
  pub wrote : Val
  pub gives : spared spare from (written path mode value from) ≡ Ok (to, wrote)
  pub answers : IsWanted wanted change.value wrote
  pub can_undo : CanUndo path change.undo to
  pub undo : undone path change.undo to ≡ from
  pub before : change.before ≡ min (weight_of from) 18446744073709551615
  pub after : change.after ≡ min (weight_of to) 18446744073709551615

-- one slot went from one value to another
pub record InSlot (slot : ℕ) (Goes : Val → Val → Type 0) (before after : List Val) : Type 0 where
  pub from : Val
  pub to : Val
  pub there : slice_get before slot ≡ Some from
  pub goes : Goes from to
  pub slots : after ≡ slice_set before slot to

-- one slot of one cell went from one value to another
pub record InCell (cell slot : ℕ) (Goes : Val → Val → Type 0) (before after : Store) : Type 0 where
  pub from : Val
  pub to : Val
  pub there : slot_of before cell slot ≡ Some from
  pub goes : Goes from to
  pub cells : after ≡ stored before cell slot to

-- a write can be undone in the value that is there
abbrev pub CanUndoIn : List Val → Undo → Option Val → Type 0
CanUndoIn path undo None = ⊥
CanUndoIn path undo (Some v) = CanUndo path undo v

-- a write is undone
abbrev pub IsUndone : List Val → Undo → Val → Val → Type 0
IsUndone path undo from to = to ≡ undone path undo from

abbrev pub without_last : Store → Store
without_last cells = take (length cells - 1) cells

abbrev pub HoldsInt : Option Val → Type 0
HoldsInt slot = (n : ℤ) × (slot ≡ Some (int n))

-- a slot that holds no int, or is not there
abbrev pub HoldsNoInt : Option Val → Type 0
HoldsNoInt slot = (n : ℤ) → slot ≢ Some (int n)
