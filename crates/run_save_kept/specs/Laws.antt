-- What is kept of a run that stopped at its horizon fits its code.
use Rattle.std.specs.Prelude.{◌≡◌, ◌≤◌, ℕ, suc, ℤ, List}
use Rattle.verse_code.specs.declared.codes.Code.{Code}
use Rattle.verse_code.specs.Validity.{Valid}
use Rattle.verse_value.specs.declared.runs.Ending.TheVariants as ending
use Rattle.verse_meaning_state.specs.State.{State}
use Rattle.verse_meaning_state.specs.Turns.{Stage, going, closed, broken, amiss, turns}
use Rattle.verse_code_machine.specs.Runs.{Forest, mach_after, turn_taken}
use Rattle.verse_code_machine.specs.Belonging.{StateBelongs}
use Rattle.run_save_shots.specs.Kept.{Kept}
use Rattle.run_save_shots.specs.Keeping.{Spells}
use Rattle.run_save_shots.specs.Fitting.{Fits}
use Rattle.verse_base.specs.declared.limits.TheConstants.{MOST_STEPS, MOST_NOW}
use Rattle.run_save_moves.specs.Fine.{TextsAreBytes}
use Rattle.run_save_fits.specs.Held.{Savable}
use Rattle.run_save_fits.specs.Laws.{InputsFit}
use Rattle.run_save_kept.specs.Orders.{Orderly}

abbrev pub StageOrderly : Stage Forest → Type 0
StageOrderly (going s tss) = Orderly s.clock.left tss
StageOrderly (closed e s tss) = Orderly s.clock.left tss
StageOrderly (broken e s) = Unit {0}
StageOrderly (amiss s) = Unit {0}

-- in every state of a run between two turns
abbrev pub RunIsOrderly : Type 0
RunIsOrderly = (c : Code) (ns : List ℤ) (steps until k : ℕ) → Valid c → TextsAreBytes c →
    StageOrderly (mach_after c ns steps until k)

-- and of one that goes on from such a state
abbrev pub OrderlyGoesOn : Type 0
OrderlyGoesOn = (c : Code) (steps u v k : ℕ) (s : State) (tss : Forest) → Valid c →
    TextsAreBytes c → Savable c steps u s tss → Orderly s.clock.left tss →
    StageOrderly (turns (turn_taken c steps v) k (going s tss))

-- what is kept of a run that stopped at its horizon
abbrev pub SavedStatesFit : Type 0
SavedStatesFit = (c : Code) (ns : List ℤ) (steps until : ℕ) (s : State) (tss : Forest) (x : Kept) →
    Valid c → TextsAreBytes c → InputsFit ns → steps ≤ MOST_STEPS → until ≤ MOST_NOW →
    mach_after c ns steps until (suc steps) ≡ closed ending.Until s tss → Spells x s tss → Fits c x

-- and of one that went on from such a state, whose cells belong to the code
abbrev pub ResumedStatesFit : Type 0
ResumedStatesFit = (c : Code) (steps u v k : ℕ) (s t : State) (tss uss : Forest) (x : Kept) →
    Valid c → TextsAreBytes c → steps ≤ MOST_STEPS → u ≤ v → v ≤ MOST_NOW →
    Savable c steps u s tss → Orderly s.clock.left tss →
    turns (turn_taken c steps v) k (going s tss) ≡ closed ending.Until t uss →
    StateBelongs c.classes t → Spells x t uss → Fits c x
