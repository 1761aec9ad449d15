-- What holds of the state and of the trees that a fitting shot spells.
use Rattle.std.specs.Prelude.{[], reverse}
use Rattle.verse_code.specs.declared.codes.Code.{Code}
use Rattle.verse_code_machine.specs.Belonging.{StateBelongs, TreesBelong}
use Rattle.verse_code_machine.specs.Goings.{CanGoOn}
use Rattle.run_save_shots.specs.Lists.{Reordered}
use Rattle.run_save_shots.specs.Kept.{Kept}
use Rattle.run_save_shots.specs.Fitting.{Fits}
use Rattle.run_save_shots.specs.Spelling.{state, tasks_from, trees}
use Rattle.run_save_spelled.specs.Growing.{flat, Sprouts}

-- each task is one of its own or a part of one before it, and numbers fall
abbrev pub TasksSprout : Type 0
TasksSprout = (c : Code) (s : Kept) → Fits c s → Sprouts [] (tasks_from c s [] s.tasks)

-- the trees have each task once
abbrev pub TreesHoldEach : Type 0
TreesHoldEach = (c : Code) (s : Kept) → Fits c s →
    Reordered (reverse (tasks_from c s [] s.tasks)) (flat (trees c s))

-- a run can go on from them, and they belong to the code
pub record Resumable (c : Code) (s : Kept) : Type 0 where
  pub can : CanGoOn (state s) (trees c s)
  pub state_belongs : StateBelongs c.classes (state s)
  pub trees_belong : TreesBelong c.classes (trees c s)

abbrev pub FittingIsResumable : Type 0
FittingIsResumable = (c : Code) (s : Kept) → Fits c s → Resumable c s
