-- What a log undoes. Entries stand in the order of the changes, marks the newest first.
use Rattle.std.specs.Prelude.{◌≡◌, Option, Some, None, IsSome, ◌<◌, ◌≤◌, ◌+◌, ◌-◌, ℕ, List, [], ◌∷◌}
use Rattle.std.specs.Prelude.{length, take, drop}
use Rattle.verse_value.specs.Val.{Val}
use Rattle.verse_value.specs.View.{val_of, vals_of}
use Rattle.verse_value.specs.Store.{Store, slot_of, stored}
use Rattle.verse_value_writes.specs.Writes.{undone, CanUndo}
use Rattle.verse_value_writes.specs.declared.writes.Undo.{Undo}
use Rattle.verse_cells.specs.declared.slots.Address.{Address}
use Rattle.verse_cells.specs.Changes.{CanUndoIn, without_last}
use Rattle.verse_cells.specs.Held.{Held, store_of}
use Rattle.tx_heap.specs.Weighed.{IsWeighed}
use Rattle.tx_heap.specs.declared.entries.Entry.{Entry}
use Rattle.tx_heap.specs.declared.entries.Entry.TheVariants as entry
use Rattle.tx_heap.specs.declared.entries.Mark.{Mark}

-- with the value of a slot changed
abbrev pub changed : Option Val → Address → (Val → Val) → Store → Store
changed None at f cells = cells
changed (Some v) at f cells = stored cells at.cell at.slot (f v)

-- the cells before a change
abbrev pub back : Entry → Store → Store
back (entry.Slot at old) cells = stored cells at.cell at.slot (val_of old)
back (entry.Part at path undo) cells =
    changed (slot_of cells at.cell at.slot) at (undone (vals_of path) undo) cells
back entry.Added cells = without_last cells

abbrev pub CanGoBack : Entry → Store → Type 0
CanGoBack (entry.Slot at old) cells = IsSome (slot_of cells at.cell at.slot)
CanGoBack (entry.Part at path undo) cells =
    CanUndoIn (vals_of path) undo (slot_of cells at.cell at.slot)
CanGoBack entry.Added cells = 0 < length cells

-- the cells before all these changes: the newest is undone first
abbrev pub rewound : List Entry → Store → Store
rewound [] cells = cells
rewound (e ∷ es) cells = back e (rewound es cells)

-- each entry can be undone when its turn comes
abbrev pub Undoable : List Entry → Store → Type 0
Undoable [] cells = Unit {0}
Undoable (e ∷ es) cells = Undoable es cells × CanGoBack e (rewound es cells)

-- no mark is above the one after it, none is above `top`, and nothing stands before the oldest
abbrev pub Ordered : ℕ → List Mark → Type 0
Ordered top [] = top ≡ 0
Ordered top (m ∷ ms) = (m.start ≤ top) × Ordered m.start ms

-- the cells at each mark
abbrev pub copies : List Entry → Store → List Mark → List Store
copies log cells [] = []
copies log cells (m ∷ ms) = rewound (drop m.start log) cells ∷ copies log cells ms

-- each mark keeps the weight of the cells that stood then
abbrev pub AllWeighed : List Mark → List Store → Type 0
AllWeighed [] copies = Unit {0}
AllWeighed (m ∷ ms) [] = ⊥
AllWeighed (m ∷ ms) (c ∷ cs) = IsWeighed m.weight c × AllWeighed ms cs

-- the entries since each mark, up to the next
abbrev pub gaps : ℕ → List Mark → List ℕ
gaps top [] = []
gaps top (m ∷ ms) = (top - m.start) ∷ gaps m.start ms

pub record IsWhole (log : List Entry) (marks : List Mark) (cells : Store) : Type 0 where
  pub ordered : Ordered (length log) marks
  pub undoable : Undoable log cells
  pub weighed : AllWeighed marks (copies log cells marks)

-- how far the undoing of `all` to `start` entries has come
pub record Undoing (start : ℕ) (all : List Entry) (before : Held) (log : List Entry) (now : Held) :
    Type 0 where
  pub within : start ≤ length log
  pub front : log ≡ take (length log) all
  pub undoable : Undoable log (store_of now)
  pub alike : (m : ℕ) → m ≤ start →
      rewound (drop m log) (store_of now) ≡ rewound (drop m all) (store_of before)
  pub count : now.accesses + length log ≤ before.accesses + length all

-- a write went from one value of the slot to another, and can be undone
pub record UndoneBy (path : List Val) (undo : Undo) (from to : Val) : Type 0 where
  pub can_undo : CanUndo path undo to
  pub back : undone path undo to ≡ from
