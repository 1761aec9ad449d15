-- The store: cells by address from 0.
use Rattle.std.specs.Prelude.{ℕ, ◌+◌, List, [], ◌∷◌, ◌++◌, Option, None, Some, slice_get, slice_set}
use Rattle.std.specs.Prelude.{option_and_then}
use Rattle.verse_value.specs.Val.{Val, vals}
use Rattle.verse_value.specs.Sizes.{weights}
use Rattle.verse_value.specs.declared.runs.CellKind.{CellKind}

-- a variable has one slot, an object one for each field, an event none
pub record Cell : Type 0 where
  pub kind : CellKind
  pub slots : List Val

abbrev pub Store : Type 0
Store = List Cell

abbrev pub cell_weight : Cell → ℕ
cell_weight c = 1 + weights (vals c.slots)

abbrev pub store_weight : Store → ℕ
store_weight [] = 0
store_weight (c ∷ cells) = cell_weight c + store_weight cells

abbrev pub slot_of : Store → ℕ → ℕ → Option Val
slot_of store cell slot = option_and_then (λ (c : Cell). slice_get c.slots slot)
    (slice_get store cell)

abbrev pub with_slot : Cell → ℕ → Val → Cell
with_slot c slot v = record c { slots = slice_set c.slots slot v }

-- with another value in a slot
abbrev pub with_cell_slot : Option Cell → Store → ℕ → ℕ → Val → Store
with_cell_slot None store cell slot v = store
with_cell_slot (Some c) store cell slot v = slice_set store cell (with_slot c slot v)

abbrev pub stored : Store → ℕ → ℕ → Val → Store
stored store cell slot v = with_cell_slot (slice_get store cell) store cell slot v

-- a new cell has the next address
abbrev pub with_cell : Store → Cell → Store
with_cell store c = store ++ c ∷ []
