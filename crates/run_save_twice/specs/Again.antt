-- What is kept of a run can be saved again, once a run has gone on from it.
use Rattle.std.specs.Prelude.{◌≤◌, ◌+◌, ℕ}
use Rattle.verse_code.specs.declared.codes.Code.{Code}
use Rattle.verse_code.specs.Validity.{Valid}
use Rattle.verse_meaning_state.specs.State.{State}
use Rattle.verse_code_machine.specs.Runs.{Forest}
use Rattle.run_save_shots.specs.Lists.{Each}
use Rattle.run_save_shots.specs.Kept.{Kept}
use Rattle.run_save_shots.specs.Keeping.{Spells}
use Rattle.run_save_shots.specs.Fitting.{frames_in, Fits}
use Rattle.run_save_shots.specs.Spelling.{state, trees}
use Rattle.run_save_fits.specs.Held.{NoLater, Savable}
use Rattle.run_save_shown.specs.Shown.{Shown, CanBeSaved}

-- What a run keeps to, beside what fits: there are no more frames than steps were spent, and
-- nothing came later than the horizon.
pub record IsOfRun (until : ℕ) (x : Kept) : Type 0 where
  pub few_frames : frames_in x.tasks ≤ x.spent
  pub now : x.now ≤ until
  pub spawned : Each (NoLater until) x.spawned

-- a run can go on from what it spells, so that what is kept of it later fits the code
abbrev pub FittingCanBeSaved : Type 0
FittingCanBeSaved = (c : Code) (until : ℕ) (x : Kept) → Valid c → Fits c x → IsOfRun until x →
    CanBeSaved c (x.left + x.spent) until (state x) (trees c x)

-- what spells a state that could be saved keeps to it, at each later horizon
abbrev pub SavedIsOfRun : Type 0
SavedIsOfRun = (c : Code) (steps until later : ℕ) (s : State) (tss : Forest) (x : Kept) →
    until ≤ later → Savable c steps until s tss → Spells x s tss → IsOfRun later x

-- and so what is shown of such a state can be saved again, as often as one likes
abbrev pub ShownCanBeSaved : Type 0
ShownCanBeSaved = (c : Code) (steps until later : ℕ) (s : State) (tss : Forest) (x : Kept) →
    Valid c → until ≤ later → Savable c steps until s tss → Shown c x s tss →
    CanBeSaved c (x.left + x.spent) later (state x) (trees c x)
