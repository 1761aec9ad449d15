-- Cells, and the copies of them at open marks, the newest first.
use Rattle.std.specs.Prelude.{ℕ, ◌≤◌, List, [], ◌∷◌}
use Rattle.verse_value.specs.Val.{Val}
use Rattle.verse_value.specs.Store.{Cell, Store, with_cell, stored, store_weight}
use Rattle.verse_value.specs.declared.runs.CellKind.{CellKind}
use Rattle.verse_value.specs.declared.sizes.TheConstants.{MOST_STORE_WEIGHT}

pub record State : Type 0 where
  pub cells : Store
  pub copies : List Store

-- no cells, and no mark
abbrev pub empty : State
empty = record { cells = []; copies = [] }

abbrev pub new_cell : CellKind → List Val → Cell
new_cell kind slots = record { kind = kind; slots = slots }

abbrev pub with_new : State → Cell → State
with_new s c = record s { cells = with_cell s.cells c }

abbrev pub with_slot : State → ℕ → ℕ → Val → State
with_slot s cell slot v = record s { cells = stored s.cells cell slot v }

abbrev pub marked : State → State
marked s = record s { copies = s.cells ∷ s.copies }

abbrev pub without_newest : List Store → List Store
without_newest [] = []
without_newest (c ∷ cs) = cs

-- the newest copy is let go
abbrev pub committed : State → State
committed s = record s { copies = without_newest s.copies }

abbrev pub back_to_newest : State → List Store → State
back_to_newest s [] = s
back_to_newest s (c ∷ cs) = record { cells = c; copies = cs }

-- the newest copy stands again
abbrev pub rolled_back : State → State
rolled_back s = back_to_newest s s.copies

-- the sum of all weights is within the limit of a store
abbrev pub IsLight : Store → Type 0
IsLight cells = store_weight cells ≤ MOST_STORE_WEIGHT
