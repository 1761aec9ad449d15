-- A run that stopped at its horizon goes on from what is kept of it.
use Rattle.std.specs.Prelude.{◌≡◌, ◌≤◌, ℕ, ℤ, List, []}
use Rattle.verse_code.specs.declared.codes.Code.{Code}
use Rattle.verse_code.specs.Validity.{Valid}
use Rattle.verse_value.specs.declared.runs.Ending.TheVariants as ending
use Rattle.verse_meaning_state.specs.State.{State}
use Rattle.verse_meaning_state.specs.Turns.{closed}
use Rattle.verse_code_machine.specs.Runs.{Forest, mach}
use Rattle.verse_code_machine_parents.specs.Parents.{TreesRooted}
use Rattle.verse_code_machine_saved.specs.Horizons.{after_from, run_from, Stopped}
use Rattle.verse_code_machine_saved.specs.Resuming.{apart, behind}
use Rattle.run_save_shots.specs.Kept.{Kept}
use Rattle.run_save_shots.specs.Keeping.{Spells}
use Rattle.run_save_shots.specs.Spelling.{state, trees}
use Rattle.verse_base.specs.declared.limits.TheConstants.{MOST_NOW}
use Rattle.run_save_moves.specs.Fine.{TextsAreBytes}
use Rattle.run_save_fits.specs.Laws.{InputsFit}
use Rattle.run_save_fits.specs.Held.{Savable}
use Rattle.run_save_kept.specs.Orders.{Orderly}
use Rattle.run_save_kept.specs.Growing.{filled}
use Rattle.run_save_births.specs.Births.{AreBorn}
use Rattle.run_save_groups.specs.Arms.{TreesAre}
use Rattle.run_save_orders.specs.Roots.{SameButRoots}

-- what holds of a state between two turns
pub record Held (c : Code) (steps until : ℕ) (s : State) (tss : Forest) : Type 0 where
  pub savable : Savable c steps until s tss
  pub orderly : Orderly s.clock.left tss
  pub born : AreBorn s.clock.left tss
  pub arms : TreesAre s.clock.left tss

-- so it is where a run stopped at its horizon
abbrev pub StoppedRunIsHeld : Type 0
StoppedRunIsHeld = (c : Code) (ns : List ℤ) (steps u : ℕ) (s : State) (tss : Forest) → Valid c →
    TextsAreBytes c → InputsFit ns → u ≤ MOST_NOW → Stopped c ns steps u s tss →
    Held c steps u s tss

-- The trees that are spelled of what is kept of such a state are its trees, in the order in which
-- they were kept and without the empty ones, with other numbers: beneath each task in the same
-- order. And parents stand behind their children.
abbrev pub SpelledTreesAreTheSame : Type 0
SpelledTreesAreTheSame = (c : Code) (steps until : ℕ) (s : State) (tss : Forest) (x : Kept) →
    Held c steps until s tss → (y : Spells x s tss) →
    TreesRooted x.left (trees c x) × SameButRoots (state x) (filled y.ordered) (trees c x)

-- So a run that goes on from what is kept is the run from the state without its signals and lines.
abbrev pub SpelledRunIsTheSame : Type 0
SpelledRunIsTheSame = (c : Code) (steps until v : ℕ) (s : State) (tss : Forest) (x : Kept) →
    Valid c → TextsAreBytes c → Held c steps until s tss → Spells x s tss →
    run_from c steps v (state x) (trees c x) ≡ run_from c steps v (apart s) tss

-- A run that stopped at its horizon, gone on from what is kept of it in whatever order, is the run
-- to the later horizon, and its trace goes on from the one so far.
abbrev pub KeptRunGoesOn : Type 0
KeptRunGoesOn =
    (c : Code) (ns : List ℤ) (steps u v : ℕ) (s : State) (tss : Forest) (x : Kept) → Valid c →
    TextsAreBytes c → InputsFit ns → u ≤ v → u ≤ MOST_NOW → Stopped c ns steps u s tss →
    Spells x s tss →
    behind s.memory.trace (run_from c steps v (state x) (trees c x)) ≡ mach c ns steps v

-- A run that goes on from such a state and stops leaves such a state,
abbrev pub HeldGoesOn : Type 0
HeldGoesOn = (c : Code) (steps u w : ℕ) (s t : State) (tss uss : Forest) → Valid c →
    TextsAreBytes c → u ≤ w → w ≤ MOST_NOW → Held c steps u s tss →
    after_from c steps w s tss ≡ closed ending.Until t uss → Held c steps w t uss

-- and, where that run began without a signal, it goes on from what is kept of it.
abbrev pub HeldRunGoesOn : Type 0
HeldRunGoesOn = (c : Code) (steps u w v : ℕ) (s t : State) (tss uss : Forest) (x : Kept) →
    Valid c → TextsAreBytes c → u ≤ w → w ≤ MOST_NOW → w ≤ v → Held c steps u s tss →
    s.clock.signals ≡ [] → after_from c steps w s tss ≡ closed ending.Until t uss →
    Spells x t uss →
    behind t.memory.trace (run_from c steps v (state x) (trees c x)) ≡ run_from c steps v s tss
