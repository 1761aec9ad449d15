-- What is kept of a run that went on from what was kept.
use Rattle.std.specs.Prelude.{◌≤◌, ℕ}
use Rattle.verse_code.specs.declared.codes.Code.{Code}
use Rattle.verse_base.specs.declared.limits.TheConstants.{MOST_NOW}
use Rattle.run_save_shots.specs.Kept.{Kept}
use Rattle.run_save_shots.specs.Spelling.{state, trees}
use Rattle.vm_run.specs.Origins.{Origin, from_state, CanBeRun}
use Rattle.vm_run.specs.Saving.{CanBeKept, IsShot}
use Rattle.vm_resume.specs.Steps.{steps_of}

-- What is kept of a run that stopped, from inputs or from a state where that can be said, is such a
-- state again for the run that goes on from it to a later horizon. So `shot` tells of that run too.
abbrev pub KeptAgain : Code → Type 0
KeptAgain c = (origin : Origin) (steps until later : ℕ) (x : Kept) → CanBeRun c origin steps →
    CanBeKept c origin steps until → until ≤ later → later ≤ MOST_NOW →
    IsShot c origin steps until x →
    CanBeKept c (from_state (state x) (trees c x)) (steps_of x) later
