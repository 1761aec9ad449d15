-- A run that is saved, taken up from what was kept of it, and saved again, any number of times.
use Rattle.std.specs.Prelude.{◌≡◌, ◌≤◌, ◌+◌, ℕ, ℤ, List, ◌++◌}
use Rattle.verse_code.specs.declared.codes.Code.{Code}
use Rattle.verse_code.specs.Validity.{Valid}
use Rattle.verse_value.specs.Runs.{Line, Run}
use Rattle.verse_value.specs.declared.runs.Ending.TheVariants as ending
use Rattle.verse_meaning_state.specs.State.{State}
use Rattle.verse_meaning_state.specs.Turns.{closed}
use Rattle.verse_code_machine.specs.Runs.{Forest, mach}
use Rattle.verse_code_machine.specs.Goings.{gone_from}
use Rattle.verse_code_machine_saved.specs.Horizons.{run_from, Stopped}
use Rattle.verse_code_machine_saved.specs.Resuming.{behind}
use Rattle.run_save_shots.specs.Kept.{Kept}
use Rattle.run_save_shots.specs.Keeping.{Spells}
use Rattle.run_save_shots.specs.Fitting.{Fits}
use Rattle.run_save_shots.specs.Spelling.{state, trees}
use Rattle.verse_base.specs.declared.limits.TheConstants.{MOST_STEPS, MOST_NOW}
use Rattle.run_save_moves.specs.Fine.{TextsAreBytes}
use Rattle.run_save_fits.specs.Laws.{InputsFit}
use Rattle.run_save_apart.specs.Numbers.{NumbersApart}
use Rattle.run_save_shown.specs.Shown.{CanBeSaved}
use Rattle.run_save_same.specs.Laws.{Held}

-- the run that goes on from what was kept, with the steps left and spent
abbrev pub taken_up : Code → Kept → (until : ℕ) → Run
taken_up c x until = run_from c (x.left + x.spent) until (state x) (trees c x)

-- after some turns it stops at its horizon, in this state
abbrev pub StopsAgain : Code → Kept → (until : ℕ) → State → Forest → Type 0
StopsAgain c x until s tss = (k : ℕ) ×
    (gone_from c (x.left + x.spent) until k (state x) (trees c x) ≡ closed ending.Until s tss)

-- A chain of saves of the run of so many steps from these inputs: its last horizon, the lines that
-- were printed up to there, and what was kept there. It begins where the run from the inputs
-- stopped at a horizon, and goes on where the run that was taken up from the last save stopped at
-- one that is no earlier.
pub data Chain (c : Code) (ns : List ℤ) (steps : ℕ) : ℕ → List Line → Kept → Type 0 where
  first_save : {u : ℕ} {s : State} {tss : Forest} {x : Kept} → u ≤ MOST_NOW →
      Stopped c ns steps u s tss → Spells x s tss → Chain c ns steps u s.memory.trace x
  next_save : {u w : ℕ} {lines : List Line} {x y : Kept} {s : State} {tss : Forest} →
      Chain c ns steps u lines x → u ≤ w → w ≤ MOST_NOW → StopsAgain c x w s tss → Spells y s tss →
      Chain c ns steps w (lines ++ s.memory.trace) y

-- What was kept last goes on as the one run: taken up to any horizon that is no earlier, with the
-- lines of all runs so far in front, it is the run from the inputs to that horizon.
abbrev pub ChainIsTheRun : Type 0
ChainIsTheRun =
    (c : Code) (ns : List ℤ) (steps u v : ℕ) (lines : List Line) (x : Kept) → Valid c →
    TextsAreBytes c → InputsFit ns → Chain c ns steps u lines x → u ≤ v →
    behind lines (taken_up c x v) ≡ mach c ns steps v

-- The steps left and spent that are kept are those of the run.
abbrev pub ChainKeepsSteps : Type 0
ChainKeepsSteps = (c : Code) (ns : List ℤ) (steps u : ℕ) (lines : List Line) (x : Kept) → Valid c →
    TextsAreBytes c → InputsFit ns → Chain c ns steps u lines x → x.left + x.spent ≡ steps

-- What holds of a state between two turns holds of the state that is spelled of what is kept of it.
abbrev pub HeldSpelled : Type 0
HeldSpelled = (c : Code) (steps until : ℕ) (s : State) (tss : Forest) (x : Kept) →
    Held c steps until s tss → Spells x s tss → Held c steps until (state x) (trees c x)

-- And so of what was kept last.
abbrev pub ChainIsHeld : Type 0
ChainIsHeld = (c : Code) (ns : List ℤ) (steps u : ℕ) (lines : List Line) (x : Kept) → Valid c →
    TextsAreBytes c → InputsFit ns → Chain c ns steps u lines x →
    Held c steps u (state x) (trees c x)

-- What was kept last fits the code.
abbrev pub ChainFits : Type 0
ChainFits = (c : Code) (ns : List ℤ) (steps u : ℕ) (lines : List Line) (x : Kept) → Valid c →
    TextsAreBytes c → InputsFit ns → steps ≤ MOST_STEPS → Chain c ns steps u lines x → Fits c x

-- What fits a code spells tasks of which no two have one number.
abbrev pub FittingIsApart : Type 0
FittingIsApart = (c : Code) (x : Kept) → Fits c x → NumbersApart (trees c x)

-- So the run that is taken up from what was kept last can be saved again, at any horizon that is no
-- earlier.
abbrev pub ChainCanBeSaved : Type 0
ChainCanBeSaved =
    (c : Code) (ns : List ℤ) (steps u v : ℕ) (lines : List Line) (x : Kept) → Valid c →
    TextsAreBytes c → InputsFit ns → steps ≤ MOST_STEPS → v ≤ MOST_NOW →
    Chain c ns steps u lines x → u ≤ v →
    CanBeSaved c (x.left + x.spent) v (state x) (trees c x)
