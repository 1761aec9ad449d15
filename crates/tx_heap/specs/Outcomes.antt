-- What a write at a path in a slot comes to.
use Rattle.std.specs.Prelude.{◌≡◌, ℕ, nat_le, List, Option, Some, None, Result, Ok, Err}
use Rattle.std.specs.Prelude.{if◌then◌else◌}
use Rattle.verse_base.specs.declared.refusals.Kind.TheVariants as kind
use Rattle.verse_value.specs.Val.{Val}
use Rattle.verse_value.specs.Store.{Store, slot_of, stored, store_weight}
use Rattle.verse_value.specs.declared.values.Value.{Value}
use Rattle.verse_value.specs.declared.sizes.TheConstants.{MOST_STORE_WEIGHT}
use Rattle.verse_cells.specs.Changes.{IsWanted}
use Rattle.verse_cells.specs.declared.slots.Wanted.{Wanted}
use Rattle.verse_value_writes.specs.Writes.{written}
use Rattle.verse_value.specs.declared.modes.Mode.{Mode}
use Rattle.verse_value_writes.specs.declared.writes.WriteFault.{WriteFault}
use Rattle.verse_value_writes.specs.declared.writes.WriteFault.TheVariants.{Fault, Stuck}

-- the limit of the store is looked at last
abbrev pub limited : Store → Val → Result (Store × Val) WriteFault
limited cells value = if nat_le (store_weight cells) MOST_STORE_WEIGHT then Ok (cells, value)
    else Err (Fault kind.Store)

abbrev pub with_written : Store → ℕ → ℕ → Result (Val × Val) WriteFault →
    Result (Store × Val) WriteFault
with_written cells cell slot (Ok w) = limited (stored cells cell slot w.0) w.1
with_written cells cell slot (Err fault) = Err fault

abbrev pub written_from : Store → ℕ → ℕ → List Val → Mode → Val → Option Val →
    Result (Store × Val) WriteFault
written_from cells cell slot path mode value None = Err Stuck
written_from cells cell slot path mode value (Some from) =
    with_written cells cell slot (written path mode value from)

-- the cells after the write and the value written, or why there is neither
abbrev pub cells_written : Store → ℕ → ℕ → List Val → Mode → Val → Result (Store × Val) WriteFault
cells_written cells cell slot path mode value =
    written_from cells cell slot path mode value (slot_of cells cell slot)

-- the cells after the write alone
abbrev pub cells_after : Result (Store × Val) WriteFault → Option Store
cells_after (Ok w) = Some w.0
cells_after (Err fault) = None

-- a write came to these cells, and hands back what is wanted of the value written
pub record Lands (wanted : Wanted) (outcome : Result (Store × Val) WriteFault) (after : Store)
    (copy : Option Value) : Type 0 where
  pub wrote : Val
  pub is : outcome ≡ Ok (after, wrote)
  pub answers : IsWanted wanted copy wrote
