-- The levels that lists of each kind make.
use Rattle.std.specs.Prelude.{◌≡◌, ◌≤◌, ◌+◌, List, length}
use Rattle.fiber_stacks.specs.Layers.{total}
use Rattle.fiber_stacks.specs.Levels.{Level, levels}
use Rattle.fiber_stacks.specs.declared.levels.Levels.TheInside.{Inside}

abbrev pub levels_of : {T : Type 0} → Inside T → List (Level T)
levels_of l = levels l.operands.lists l.defers.lists l.noted.lists

-- as many lists of each kind, and room to note a place for each deferred block
pub record AreLevel {T : Type 0} (l : Inside T) : Type 0 where
  pub defers : length l.defers.lists ≡ length l.operands.lists
  pub noted : length l.noted.lists ≡ length l.operands.lists
  pub room : total l.defers.lists + total l.noted.lists ≤ l.noted.room
