-- What is kept of a run that stopped spells its trees again.
use Rattle.std.specs.Prelude.{◌≡◌, ◌≤◌, ℕ, suc, ℤ, List}
use Rattle.verse_code.specs.declared.codes.Code.{Code}
use Rattle.verse_code.specs.Validity.{Valid}
use Rattle.verse_value.specs.declared.runs.Ending.TheVariants as ending
use Rattle.verse_meaning_state.specs.State.{State}
use Rattle.verse_meaning_state.specs.Turns.{closed}
use Rattle.verse_code_machine.specs.Tasks.{tree_waits}
use Rattle.verse_code_machine.specs.Runs.{Forest, mach_after}
use Rattle.run_save_shots.specs.Kept.{Kept}
use Rattle.run_save_shots.specs.Keeping.{Spells}
use Rattle.run_save_shots.specs.Spelling.{trees}
use Rattle.verse_base.specs.declared.limits.TheConstants.{MOST_NOW}
use Rattle.run_save_moves.specs.Fine.{TextsAreBytes}
use Rattle.run_save_fits.specs.Laws.{InputsFit}
use Rattle.run_save_kept.specs.Growing.{filled}
use Rattle.run_save_same.specs.Alike.{TreesAlike}

-- in the order in which they were kept: the trees without the empty ones, but for their numbers,
-- and the live waits
pub record SpelledAgain (c : Code) (x : Kept) (ordered : Forest) : Type 0 where
  pub alike : TreesAlike (filled ordered) (trees c x)
  pub waits : tree_waits (trees c x) ≡ tree_waits ordered

abbrev pub StoppedRunIsSpelled : Type 0
StoppedRunIsSpelled =
    (c : Code) (ns : List ℤ) (steps until : ℕ) (s : State) (tss : Forest) (x : Kept) → Valid c →
    TextsAreBytes c → InputsFit ns → until ≤ MOST_NOW →
    mach_after c ns steps until (suc steps) ≡ closed ending.Until s tss → (y : Spells x s tss) →
    SpelledAgain c x y.ordered
