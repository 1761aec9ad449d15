-- Runs that are resumed: what is kept of a run that stopped at its horizon, and how it goes on from
-- that.
use Rattle.std.specs.Prelude.{◌≡◌, ◌≤◌, ◌+◌, ℕ, ℤ, List, [], ◌++◌, length}
use Rattle.verse_code.specs.declared.codes.Code.{Code}
use Rattle.verse_code.specs.Validity.{Valid}
use Rattle.verse_value.specs.Runs.{Line, Run}
use Rattle.verse_value.specs.declared.runs.Ending.TheVariants as ending
use Rattle.verse_meaning_state.specs.State.{State}
use Rattle.verse_meaning_state.specs.Waits.{Wait, least}
use Rattle.verse_meaning_state.specs.Effects.{printed_by}
use Rattle.verse_meaning_state.specs.Turns.{closed}
use Rattle.verse_code_machine.specs.Tasks.{tree_waits}
use Rattle.verse_code_machine.specs.Runs.{Forest, mach}
use Rattle.verse_code_machine.specs.Laws.{IsOver}
use Rattle.verse_code_machine_saved.specs.Horizons.{after_from, run_from, Stopped, Unheard, Undone}
use Rattle.verse_code_machine_saved.specs.Horizons.{NoLater, NoResultLater, NoneNewer}
use Rattle.verse_code_machine_saved.specs.Numbers.{Numbering, Rises, Fixed, Prior, Counts, state_as}
use Rattle.verse_code_machine_saved.specs.Numbers.{trees_as, renumbered}

-- signals of before that reach none of the waits change nothing of what is due
abbrev pub SignalsUnheard : Type 0
SignalsUnheard = (z : Prior) (ws : List Wait) (s : State) → Unheard z.signals ws →
    least (state_as z s) ws ≡ least s ws

-- a run whose trace goes on from these lines
abbrev pub behind : List Line → Run → Run
behind lines r = record r { trace = lines ++ r.trace }

-- A run is the same with other numbers, with signals of before that reach no wait, and with lines
-- before it: its trace goes on from those lines.
abbrev pub RunBehind : Type 0
RunBehind = (c : Code) (steps until : ℕ) (z : Prior) (s : State) (tss : Forest) →
    Rises z.numbers → Fixed z.numbers s.clock.left →
    Counts z s → NoneNewer s.clock.next z.signals → Unheard z.signals (tree_waits tss) →
    run_from c steps until (state_as z s) (trees_as z tss) ≡
    behind z.lines (run_from c steps until s tss)

-- what is kept of a state: no signals, and of its trace how much was printed
abbrev pub apart : State → State
apart s = record {
  memory = record { store = s.memory.store; trace = [] };
  clock = record s.clock {
    signals = [];
    before = record { bytes = printed_by s; lines = s.clock.before.lines + length s.memory.trace };
  };
}

-- what is not kept of it, and other numbers
abbrev pub prior : Numbering → State → Prior
prior r s = record {
  numbers = r;
  signals = s.clock.signals;
  lines = s.memory.trace;
  before =
      s.clock.before;
}

-- the trees of a state are kept, with other numbers in the same order: both come to the same under
-- two numberings
pub record SameTrees (s : State) (tss uss : Forest) : Type 0 where
  pub own : Numbering
  pub other : Numbering
  pub own_rises : Rises own
  pub own_fixed : Fixed own s.clock.left
  pub other_rises : Rises other
  pub other_fixed : Fixed other s.clock.left
  pub meet : trees_as (renumbered own s) tss ≡ trees_as (prior other s) uss

-- no signal, no result and no turn was behind the horizon, and no signal is newer than the next
-- wait
pub record Within (until : ℕ) (s : State) : Type 0 where
  pub now : s.clock.now ≤ until
  pub signals : NoLater until s.clock.signals
  pub results : NoResultLater until s.clock.results
  pub newer : NoneNewer s.clock.next s.clock.signals

-- A run that stopped at its horizon, resumed with a later one from what was kept, is the run to
-- that; its trace is the one so far and then that of the resumed run. No wait that was left is for
-- a task that is over.
abbrev pub RunResumed : Type 0
RunResumed = (c : Code) (ns : List ℤ) (steps u v : ℕ) (s : State) (tss uss : Forest) → Valid c →
    u ≤ v → Stopped c ns steps u s tss →
    SameTrees s tss uss → Undone s.clock.results (tree_waits tss) ×
    (behind s.memory.trace (run_from c steps v (apart s) uss) ≡ mach c ns steps v)

-- and so a run that was itself resumed
abbrev pub RunResumedAgain : Type 0
RunResumedAgain = (c : Code) (steps u v : ℕ) (s t : State) (tss uss vss : Forest) → u ≤ v →
    Within u s →
    IsOver (after_from c steps v s tss) → after_from c steps u s tss ≡ closed ending.Until t uss →
    SameTrees t uss vss →
    Within u t × Undone t.clock.results (tree_waits uss) ×
    (behind t.memory.trace (run_from c steps v (apart t) vss) ≡ run_from c steps v s tss)

-- the resumed run ends as well
abbrev pub ResumedRunEnds : Type 0
ResumedRunEnds = (c : Code) (ns : List ℤ) (steps u v : ℕ) (s : State) (tss uss : Forest) →
    Valid c → u ≤ v →
    Stopped c ns steps u s tss → SameTrees s tss uss → IsOver (after_from c steps v (apart s) uss)

-- the steps that are left at a horizon and those that were spent are those of the run
abbrev pub StepsKept : Type 0
StepsKept = (c : Code) (ns : List ℤ) (steps until : ℕ) (s : State) (tss : Forest) →
    Stopped c ns steps until s tss →
    s.clock.left + s.clock.spent ≡ steps
