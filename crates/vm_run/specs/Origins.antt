-- Where a run begins, and what it comes to.
use Rattle.std.specs.Prelude.{◌≡◌, ◌≤◌, ◌+◌, ℕ, suc, ℤ, List, length}
use Rattle.verse_code.specs.declared.codes.Code.{Code}
use Rattle.verse_code.specs.Validity.{Valid}
use Rattle.verse_value.specs.Runs.{Run}
use Rattle.verse_meaning_state.specs.State.{State}
use Rattle.verse_meaning_state.specs.Turns.{Stage, run_of}
use Rattle.verse_code_machine.specs.Tasks.{tree_waits}
use Rattle.verse_code_machine.specs.Runs.{Forest, mach_after, mach}
use Rattle.verse_code_machine.specs.Laws.{IsWhole, IsOver}
use Rattle.verse_code_machine.specs.Belonging.{StateBelongs, TreesBelong, StageBelongs}
use Rattle.verse_code_machine.specs.Goings.{gone_from, CanGoOn}
use Rattle.verse_code_machine_endings.specs.Endings.{EndsSo}
use Rattle.verse_code_machine_saved.specs.Horizons.{run_from}

-- with inputs, or in a state between two turns
pub data Origin : Type 0 where
  from_inputs : List ℤ → Origin
  from_state : State → Forest → Origin

-- after a first call, which starts Main or takes the first turn, and k turns more
abbrev pub stage_after : Code → Origin → (steps until k : ℕ) → Stage Forest
stage_after c (from_inputs ns) steps until k = mach_after c ns steps until k
stage_after c (from_state s trees) steps until k = gone_from c steps until (suc k) s trees

-- the whole run
abbrev pub whole_run : Code → Origin → (steps until : ℕ) → Run
whole_run c (from_inputs ns) steps until = mach c ns steps until
whole_run c (from_state s trees) steps until = run_from c steps until s trees

-- a run of so many steps can go on from the state: they are those left and those spent, and the
-- state belongs to the code
pub record IsResumable (c : Code) (steps : ℕ) (s : State) (trees : Forest) : Type 0 where
  pub steps_are : s.clock.left + s.clock.spent ≡ steps
  pub can : CanGoOn s trees
  pub state_belongs : StateBelongs c.classes s
  pub trees_belong : TreesBelong c.classes trees

-- the inputs are within their limit, or the state can be gone on from
abbrev pub CanBeRun : Code → Origin → ℕ → Type 0
CanBeRun c (from_inputs ns) steps = length ns ≤ 1000
CanBeRun c (from_state s trees) steps = IsResumable c steps s trees

-- Each turn's operations come to an end, and so does the run, and is over then; its states belong
-- to the code. A call more than there are steps is at the end. Before a turn a run is over with
-- other endings than within one.
pub record RunHolds (c : Code) (origin : Origin) (steps until : ℕ) : Type 0 where
  pub whole : (k : ℕ) → IsWhole (stage_after c origin steps until k)
  pub over : IsOver (stage_after c origin steps until (suc steps))
  pub stays : (k j : ℕ) → IsOver (stage_after c origin steps until k) →
      stage_after c origin steps until (k + j) ≡ stage_after c origin steps until k
  pub belongs : (k : ℕ) → StageBelongs c.classes (stage_after c origin steps until k)
  pub ends : (k : ℕ) → EndsSo (stage_after c origin steps until k)
  pub run : whole_run c origin steps until ≡
      run_of tree_waits (stage_after c origin steps until (suc steps))

-- of each run
abbrev pub RunsHold : Type 0
RunsHold = (c : Code) (origin : Origin) (steps until : ℕ) → Valid c → CanBeRun c origin steps →
    RunHolds c origin steps until
