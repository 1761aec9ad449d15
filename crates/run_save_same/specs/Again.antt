-- A run that stopped at its horizon, and what is kept of it.
use Rattle.std.specs.Prelude.{◌≡◌, ◌≤◌, ◌+◌, ℕ, ℤ, List}
use Rattle.verse_code.specs.declared.codes.Code.{Code}
use Rattle.verse_code.specs.Validity.{Valid}
use Rattle.verse_meaning_state.specs.State.{State}
use Rattle.verse_code_machine.specs.Tasks.{tree_waits}
use Rattle.verse_code_machine.specs.Runs.{Forest, mach}
use Rattle.verse_code_machine.specs.Goings.{RunEndsFrom}
use Rattle.verse_code_machine_saved.specs.Horizons.{run_from, Stopped, Undone}
use Rattle.verse_code_machine_saved.specs.Resuming.{behind, apart, SameTrees}
use Rattle.run_save_shots.specs.Kept.{Kept}
use Rattle.run_save_shots.specs.Keeping.{Spells}
use Rattle.run_save_shots.specs.Spelling.{state, trees}
use Rattle.verse_base.specs.declared.limits.TheConstants.{MOST_STEPS, MOST_NOW}
use Rattle.run_save_moves.specs.Fine.{TextsAreBytes}
use Rattle.run_save_fits.specs.Laws.{InputsFit}
use Rattle.run_save_resumes.specs.Laws.{Resumable}

-- what is kept spells the state without its signals and its lines, and what was printed counts
abbrev pub SpelledStateIsApart : Type 0
SpelledStateIsApart = (x : Kept) (s : State) (tss : Forest) → Spells x s tss → state x ≡ apart s

-- the steps that are kept are those of the run
abbrev pub KeptStepsAreTheRuns : Type 0
KeptStepsAreTheRuns = (c : Code) (ns : List ℤ) (steps u : ℕ) (s : State) (tss : Forest) (x : Kept) →
    Stopped c ns steps u s tss → Spells x s tss → x.left + x.spent ≡ steps

-- what a run can be gone on from, and that run ends
pub record GoesOn (c : Code) (steps until : ℕ) (x : Kept) : Type 0 where
  pub steps_are : x.left + x.spent ≡ steps
  pub resumable : Resumable c x
  pub ends : RunEndsFrom c steps until (state x) (trees c x)

abbrev pub SavedRunGoesOn : Type 0
SavedRunGoesOn = (c : Code) (ns : List ℤ) (steps u v : ℕ) (s : State) (tss : Forest) (x : Kept) →
    Valid c → TextsAreBytes c → InputsFit ns → steps ≤ MOST_STEPS → u ≤ MOST_NOW →
    Stopped c ns steps u s tss → Spells x s tss → GoesOn c steps v x

-- Where the trees that are spelled are those of the run with other numbers in the same order, the
-- run that goes on from what is kept is the run to the later horizon, and its trace goes on from
-- the one so far.
abbrev pub SavedRunIsTheRun : Type 0
SavedRunIsTheRun = (c : Code) (ns : List ℤ) (steps u v : ℕ) (s : State) (tss : Forest) (x : Kept) →
    Valid c → u ≤ v → Stopped c ns steps u s tss → Spells x s tss → SameTrees s tss (trees c x) →
    Undone s.clock.results (tree_waits tss) ×
    (behind s.memory.trace (run_from c steps v (state x) (trees c x)) ≡ mach c ns steps v)
