-- What is kept of a run that stopped at its horizon.
use Rattle.std.specs.Prelude.{◌≡◌, ◌≤◌, ℕ, suc, ℤ, List}
use Rattle.verse_code.specs.declared.codes.Code.{Code}
use Rattle.verse_code.specs.Validity.{Valid}
use Rattle.verse_value.specs.declared.runs.Ending.TheVariants as ending
use Rattle.verse_meaning_state.specs.State.{State}
use Rattle.verse_meaning_state.specs.Turns.{closed}
use Rattle.verse_code_machine.specs.Runs.{Forest, mach_after}
use Rattle.verse_code_machine.specs.Goings.{gone_from}
use Rattle.verse_code_machine.specs.Belonging.{StateBelongs}
use Rattle.run_save_shots.specs.Kept.{Kept}
use Rattle.run_save_shots.specs.Keeping.{Spells}
use Rattle.run_save_shots.specs.Fitting.{Fits}
use Rattle.verse_base.specs.declared.limits.TheConstants.{MOST_STEPS, MOST_NOW}
use Rattle.run_save_moves.specs.Fine.{TextsAreBytes}
use Rattle.run_save_fits.specs.Held.{Savable}
use Rattle.run_save_fits.specs.Laws.{InputsFit}
use Rattle.run_save_kept.specs.Orders.{Orderly}
use Rattle.run_save_apart.specs.Numbers.{NumbersApart}

-- it spells the state and its trees, and fits the code
pub record Shown (c : Code) (x : Kept) (s : State) (tss : Forest) : Type 0 where
  pub spells : Spells x s tss
  pub fits : Fits c x

-- it spells the state and its trees where no two tasks have one number
abbrev pub SpellsApart : Kept → State → Forest → Type 0
SpellsApart x s tss = NumbersApart tss → Spells x s tss

-- a state from which a run can go on, so that what is kept of it later fits the code
pub record CanBeSaved (c : Code) (steps until : ℕ) (s : State) (tss : Forest) : Type 0 where
  pub savable : Savable c steps until s tss
  pub orderly : Orderly s.clock.left tss
  pub apart : NumbersApart tss

-- of a run from inputs
abbrev pub StoppedRunIsShown : Type 0
StoppedRunIsShown =
    (c : Code) (ns : List ℤ) (steps until : ℕ) (s : State) (tss : Forest) (x : Kept) → Valid c →
    TextsAreBytes c → InputsFit ns → steps ≤ MOST_STEPS → until ≤ MOST_NOW →
    mach_after c ns steps until (suc steps) ≡ closed ending.Until s tss → SpellsApart x s tss →
    Shown c x s tss

-- of one that had gone on from such a state, whose cells belong to the code
abbrev pub ResumedRunIsShown : Type 0
ResumedRunIsShown =
    (c : Code) (steps until later k : ℕ) (s r : State) (tss uss : Forest) (x : Kept) → Valid c →
    TextsAreBytes c → steps ≤ MOST_STEPS → until ≤ later → later ≤ MOST_NOW →
    CanBeSaved c steps until s tss → StateBelongs c.classes r →
    gone_from c steps later k s tss ≡ closed ending.Until r uss → SpellsApart x r uss →
    Shown c x r uss
