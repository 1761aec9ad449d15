-- Runs from trees of tasks in another order.
use Rattle.std.specs.Prelude.{◌≡◌, ◌≤◌, ℕ}
use Rattle.verse_code.specs.declared.codes.Code.{Code}
use Rattle.verse_code.specs.Validity.{Valid}
use Rattle.verse_meaning_state.specs.State.{State}
use Rattle.verse_meaning_state.specs.Turns.{Stage, going, closed, broken, amiss}
use Rattle.verse_meaning_state.specs.Waits.{ltn}
use Rattle.verse_code_machine.specs.Tasks.{Task}
use Rattle.verse_code_machine.specs.Runs.{Forest}
use Rattle.verse_code_machine.specs.Goings.{gone_from}
use Rattle.verse_code_machine_parents.specs.Parents.{TreesRooted}
use Rattle.verse_code_machine_saved.specs.Horizons.{run_from}
use Rattle.run_save_shots.specs.Lists.{Reordered}
use Rattle.run_save_moves.specs.Fine.{TextsAreBytes}
use Rattle.run_save_fits.specs.Held.{trees_sum, is_wait, one}
use Rattle.run_save_kept.specs.Growing.{filled}

-- no two waits have one number, and each was drawn
abbrev pub WaitsAre : State → Forest → Type 0
WaitsAre s tss = (n : ℕ) → trees_sum (λ (t : Task). is_wait n t.rest) tss ≤ one (ltn n s.clock.next)

-- the same trees, but for the empty ones, in some order
abbrev pub SameButOrder : Forest → Forest → Type 0
SameButOrder tss uss = Reordered (filled tss) (filled uss)

pub data StagesSame : Stage Forest → Stage Forest → Type 0 where
  both_go : {s : State} {tss uss : Forest} →
      SameButOrder tss uss → StagesSame (going s tss) (going s uss)
  both_closed : {e : _} {s : State} {tss uss : Forest} →
      SameButOrder tss uss → StagesSame (closed e s tss) (closed e s uss)
  both_broken : {e : _} {s : State} → StagesSame (broken e s) (broken e s)
  both_amiss : {s : State} → StagesSame (amiss s) (amiss s)

-- what a run goes on from: parents stand behind their children, and no wait stands twice
pub record CanTurn (s : State) (tss : Forest) : Type 0 where
  pub rooted : TreesRooted s.clock.left tss
  pub waits : WaitsAre s tss

-- the states between two turns differ in the order of trees alone
abbrev pub TurnsReordered : Type 0
TurnsReordered = (c : Code) (steps until k : ℕ) (s : State) (tss uss : Forest) → Valid c →
    TextsAreBytes c → CanTurn s tss → SameButOrder tss uss →
    StagesSame (gone_from c steps until k s tss) (gone_from c steps until k s uss)

-- and so the runs do not differ
abbrev pub RunReordered : Type 0
RunReordered = (c : Code) (steps until : ℕ) (s : State) (tss uss : Forest) → Valid c →
    TextsAreBytes c → CanTurn s tss → SameButOrder tss uss →
    run_from c steps until s tss ≡ run_from c steps until s uss
