-- What fits a code can be gone on from.
use Rattle.std.specs.Prelude.{◌+◌, ℕ}
use Rattle.verse_code.specs.declared.codes.Code.{Code}
use Rattle.verse_code.specs.Validity.{Valid}
use Rattle.verse_code_machine.specs.Belonging.{StateBelongs, TreesBelong, StageBelongs}
use Rattle.verse_code_machine.specs.Goings.{CanGoOn, RunEndsFrom, gone_from}
use Rattle.run_save_shots.specs.Kept.{Kept}
use Rattle.run_save_shots.specs.Fitting.{Fits}
use Rattle.run_save_shots.specs.Spelling.{state, trees}

-- No task that is spelled has a handler or a noted place, there are at most two frames for each
-- step that was spent, and each cell has the slots of its kind.
pub record Resumable (c : Code) (x : Kept) : Type 0 where
  pub can : CanGoOn (state x) (trees c x)
  pub state_belongs : StateBelongs c.classes (state x)
  pub trees_belong : TreesBelong c.classes (trees c x)

abbrev pub FitsIsResumable : Type 0
FitsIsResumable = (c : Code) (x : Kept) → Fits c x → Resumable c x

-- the operations of each turn come to an end, and the run does
abbrev pub FittingRunEnds : Type 0
FittingRunEnds = (c : Code) (x : Kept) (until : ℕ) → Valid c → Fits c x →
    RunEndsFrom c (x.left + x.spent) until (state x) (trees c x)

-- every state of the run belongs to the code
abbrev pub FittingRunBelongs : Type 0
FittingRunBelongs = (c : Code) (x : Kept) (until k : ℕ) → Fits c x →
    StageBelongs c.classes (gone_from c (x.left + x.spent) until k (state x) (trees c x))
