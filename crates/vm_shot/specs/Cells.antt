-- The slots of a cell.
use Rattle.std.specs.Prelude.{◌≡◌, ℕ, List, [], length, Option, Some, None, slice_get, option_map}
use Rattle.std.specs.Prelude.{unwrap_or}
use Rattle.verse_value.specs.Val.{Val}
use Rattle.verse_value.specs.Store.{Cell, Store}

-- of the cell of this address; none where there is no such cell
abbrev pub slots_at : Store → ℕ → List Val
slots_at cells address = unwrap_or (option_map (λ (c : Cell). c.slots) (slice_get cells address)) []

-- the cell is there, and it has so many slots
abbrev pub HasSlots : Store → (address count : ℕ) → Type 0
HasSlots cells address count =
    option_map (λ (c : Cell). length c.slots) (slice_get cells address) ≡ Some count
