-- What is kept of a run that stopped at its horizon fits the code.
use Rattle.std.specs.Prelude.{◌≡◌, ◌≤◌, ℕ, suc, ◌+◌, ℤ, List, [], ◌∷◌, length, map, Option, None}
use Rattle.std.specs.Prelude.{true}
use Rattle.verse_base.specs.declared.limits.TheConstants.{MOST_TRACE_BYTES}
use Rattle.verse_code.specs.declared.codes.Code.{Code}
use Rattle.verse_code.specs.Validity.{Valid}
use Rattle.verse_value.specs.Val.{int, array, vals}
use Rattle.verse_value.specs.Sizes.{fits}
use Rattle.verse_value.specs.Store.{Cell, store_weight}
use Rattle.verse_value.specs.declared.sizes.TheConstants.{MOST_STORE_WEIGHT}
use Rattle.verse_value.specs.declared.runs.Ending.TheVariants as ending
use Rattle.verse_meaning_state.specs.State.{State}
use Rattle.verse_meaning_state.specs.Turns.{Stage, going, closed, broken, amiss, turns}
use Rattle.verse_code_machine.specs.Runs.{Forest, mach_after, turn_taken}
use Rattle.verse_code_machine.specs.Belonging.{StoreBelongs, StateBelongs}
use Rattle.run_save_shots.specs.Lists.{Each, EachAt, AreDistinct, count}
use Rattle.run_save_shots.specs.Kept.{Kept}
use Rattle.run_save_shots.specs.Keeping.{Spells}
use Rattle.run_save_shots.specs.Fitting.{ValuesFit, GivenFits, TaskFits, waits_in, frames_in}
use Rattle.run_save_shots.specs.Fitting.{ParentBefore, is_root}
use Rattle.run_save_shots.specs.Fitting.{HasRoot, DepthFits}
use Rattle.verse_base.specs.declared.limits.TheConstants.{MOST_STEPS, MOST_NOW}
use Rattle.run_save_moves.specs.Fine.{TextsAreBytes}
use Rattle.run_save_fits.specs.Held.{Savable}

-- All fields of `Fits` but two: that each unfinished arm is a task, and in what order siblings
-- stand.
pub record FitsApart (c : Code) (s : Kept) : Type 0 where
  pub steps : s.left + s.spent ≤ MOST_STEPS
  pub now : s.now ≤ MOST_NOW
  pub next : s.next ≤ s.spent
  pub bytes : s.bytes ≤ MOST_TRACE_BYTES
  pub lines : s.lines ≤ s.bytes
  pub few_entries : length s.spawned ≤ s.spent
  pub few_tasks : length s.tasks ≤ s.spent
  pub cells : StoreBelongs c.classes s.cells
  pub slots : Each (λ (x : Cell). ValuesFit (length s.spawned) x.slots) s.cells
  pub weight : store_weight s.cells ≤ MOST_STORE_WEIGHT
  pub spawned : Each (GivenFits (length s.spawned)) s.spawned
  pub tasks : Each (TaskFits c s) s.tasks
  pub waits : AreDistinct (waits_in s.tasks)
  pub few_frames : frames_in s.tasks ≤ s.spent
  pub parents : EachAt ParentBefore 0 s.tasks
  pub main : count (is_root None) s.tasks ≤ 1
  pub roots : EachAt (HasRoot s.tasks) 0 s.spawned
  pub depths : Each (DepthFits s.tasks) s.tasks

abbrev pub StageSavable : Code → (steps until : ℕ) → Stage Forest → Type 0
StageSavable c steps until (going s tss) = Savable c steps until s tss
StageSavable c steps until (closed e s tss) = Savable c steps until s tss
StageSavable c steps until (broken e s) = Unit {0}
StageSavable c steps until (amiss s) = Unit {0}

-- the inputs are a value of a run
abbrev pub InputsFit : List ℤ → Type 0
InputsFit ns = fits (array (vals (map int ns))) ≡ true

-- every state of a run between two turns
abbrev pub RunIsSavable : Type 0
RunIsSavable = (c : Code) (ns : List ℤ) (steps until k : ℕ) → Valid c → TextsAreBytes c →
    InputsFit ns → until ≤ MOST_NOW →
    StageSavable c steps until (mach_after c ns steps until k)

-- and of one that goes on from such a state
abbrev pub SavableGoesOn : Type 0
SavableGoesOn = (c : Code) (steps u v k : ℕ) (s : State) (tss : Forest) → Valid c →
    TextsAreBytes c → u ≤ v → v ≤ MOST_NOW →
    Savable c steps u s tss → StageSavable c steps v (turns (turn_taken c steps v) k (going s tss))

-- what is kept of a run that stopped at its horizon
abbrev pub StoppedRunFits : Type 0
StoppedRunFits = (c : Code) (ns : List ℤ) (steps until : ℕ) (s : State) (tss : Forest) (x : Kept) →
    Valid c → TextsAreBytes c → InputsFit ns →
    steps ≤ MOST_STEPS → until ≤ MOST_NOW →
    mach_after c ns steps until (suc steps) ≡ closed ending.Until s tss → Spells x s tss →
    FitsApart c x

-- and of one that went on from such a state, whose cells belong to the code
abbrev pub ResumedRunFits : Type 0
ResumedRunFits = (c : Code) (steps u v k : ℕ) (s t : State) (tss uss : Forest) (x : Kept) →
    Valid c → TextsAreBytes c → steps ≤ MOST_STEPS → u ≤ v →
    v ≤ MOST_NOW → Savable c steps u s tss →
    turns (turn_taken c steps v) k (going s tss) ≡ closed ending.Until t uss →
    StateBelongs c.classes t → Spells x t uss → FitsApart c x
