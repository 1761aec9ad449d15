-- What operations do with the slots of a store.
use Rattle.std.specs.Prelude.{ℕ, nat_le, List, Option, Some, None, if◌then◌else◌}
use Rattle.verse_base.specs.declared.refusals.Kind.TheVariants as kind
use Rattle.verse_value.specs.Val.{Val}
use Rattle.verse_value.specs.Store.{Cell, Store, slot_of, stored, with_cell, store_weight}
use Rattle.verse_value.specs.Answer.{Answer, gives, fails, error, stuck, given_or}
use Rattle.verse_value.specs.Operations.{write_at}
use Rattle.verse_value.specs.declared.sizes.TheConstants.{MOST_STORE_WEIGHT}
use Rattle.verse_value.specs.declared.modes.Mode.{Mode}

-- what a slot holds; stuck where the cell or the slot is not there
abbrev pub read_slot : Store → ℕ → ℕ → Answer Val
read_slot store cell slot = given_or stuck (slot_of store cell slot)

-- with one cell more, or K3
abbrev pub add_cell : Store → Cell → Answer Store
add_cell store c = if nat_le (store_weight (with_cell store c)) MOST_STORE_WEIGHT then gives
    (with_cell store c) else error kind.Store

-- the limit of the store is looked at last
abbrev pub sized_store : Store → Val → Answer (Store × Val)
sized_store store value = if nat_le (store_weight store) MOST_STORE_WEIGHT then gives (store, value)
    else error kind.Store

abbrev pub with_written : Store → ℕ → ℕ → Answer (Val × Val) → Answer (Store × Val)
with_written store cell slot (gives w) = sized_store (stored store cell slot w.0) w.1
with_written store cell slot fails = fails
with_written store cell slot (error k) = error k
with_written store cell slot stuck = stuck

abbrev pub write_in : Store → ℕ → ℕ → List Val → Mode → Val → Option Val → Answer (Store × Val)
write_in store cell slot path mode value None = stuck
write_in store cell slot path mode value (Some from) =
    with_written store cell slot (write_at path mode value from)

-- a write at a path in a slot: the store after it, and the value written
abbrev pub write_slot : Store → ℕ → ℕ → List Val → Mode → Val → Answer (Store × Val)
write_slot store cell slot path mode value =
    write_in store cell slot path mode value (slot_of store cell slot)
