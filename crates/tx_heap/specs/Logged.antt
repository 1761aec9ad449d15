-- The parts of a heap with a log: its cells, its log, and its marks with the newest first.
use Rattle.std.specs.Prelude.{ℕ, List, length}
use Rattle.verse_cells.specs.Held.{Held, store_of}
use Rattle.tx_heap.specs.State.{State}
use Rattle.tx_heap.specs.Undo.{copies, gaps}
use Rattle.tx_heap.specs.declared.entries.Entry.{Entry}
use Rattle.tx_heap.specs.declared.entries.Mark.{Mark}

pub record Logged : Type 0 where
  pub held : Held
  pub log : List Entry
  pub marks : List Mark

abbrev pub state_of : Logged → State
state_of h = record { cells = store_of h.held; copies = copies h.log (store_of h.held) h.marks }

abbrev pub dues_of : Logged → List ℕ
dues_of h = gaps (length h.log) h.marks
