-- What is kept of a run that stopped at its horizon.
use Rattle.std.specs.Prelude.{◌≡◌, ℕ, suc}
use Rattle.verse_code.specs.declared.codes.Code.{Code}
use Rattle.verse_value.specs.declared.runs.Ending.TheVariants as ending
use Rattle.verse_meaning_state.specs.State.{State}
use Rattle.verse_meaning_state.specs.Turns.{closed}
use Rattle.verse_code_machine.specs.Runs.{Forest}
use Rattle.run_save_shots.specs.Kept.{Kept}
use Rattle.run_save_shown.specs.Shown.{Shown, CanBeSaved}
use Rattle.vm_run.specs.Origins.{Origin, from_inputs, from_state, stage_after}

-- what is kept of a run from inputs always fits its code, and of one from a state where that holds
-- what each state of a run holds
abbrev pub CanBeKept : Code → Origin → (steps until : ℕ) → Type 0
CanBeKept c (from_inputs ns) steps until = Unit {0}
CanBeKept c (from_state s trees) steps until = CanBeSaved c steps until s trees

-- the run stopped in a state that this spells, and this fits the code
pub record IsShot (c : Code) (origin : Origin) (steps until : ℕ) (x : Kept) : Type 0 where
  pub state : State
  pub trees : Forest
  pub stopped : stage_after c origin steps until (suc steps) ≡ closed ending.Until state trees
  pub shown : Shown c x state trees
