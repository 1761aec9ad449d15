-- Operations and turns keep that arms begin later than the frames of their task, whatever the code.
use Rattle.std.specs.Prelude.{ℕ, ℤ, List}
use Rattle.verse_code.specs.declared.codes.Code.{Code}
use Rattle.verse_meaning_state.specs.State.{State}
use Rattle.verse_meaning_state.specs.Turns.{Stage, going, turns}
use Rattle.verse_code_machine.specs.Tasks.{Machine}
use Rattle.verse_code_machine.specs.Runs.{Forest, step, mach_after, turn_taken}
use Rattle.verse_code_machine_births.specs.Stages as stages
use Rattle.run_save_groups.specs.Arms.{TreesAre, MachineIs, StepIs}

-- each operation keeps it
abbrev pub OperationKeepsArms : Type 0
OperationKeepsArms = (c : Code) (m : Machine) → MachineIs m.state.clock.left m → StepIs (step c m)

abbrev pub StageIs : Stage Forest → Type 0
StageIs = stages.StageIs TreesAre

-- in every state of a run between two turns
abbrev pub RunKeepsArms : Type 0
RunKeepsArms = (c : Code) (ns : List ℤ) (steps until k : ℕ) → StageIs (mach_after c ns steps until
    k)

-- and of one that goes on from such a state
abbrev pub ArmsGoOn : Type 0
ArmsGoOn = (c : Code) (steps until k : ℕ) (s : State) (tss : Forest) → TreesAre s.clock.left tss →
    StageIs (turns (turn_taken c steps until) k (going s tss))
