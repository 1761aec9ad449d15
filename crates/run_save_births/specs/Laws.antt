-- What operations and turns keep of births and numbers, whatever the code.
use Rattle.std.specs.Prelude.{ℕ, ℤ, List}
use Rattle.verse_code.specs.declared.codes.Code.{Code}
use Rattle.verse_meaning_state.specs.State.{State}
use Rattle.verse_meaning_state.specs.Turns.{Stage, going, turns}
use Rattle.verse_code_machine.specs.Tasks.{Machine}
use Rattle.verse_code_machine.specs.Runs.{Forest, step, mach_after, turn_taken}
use Rattle.verse_code_machine_births.specs.Stages.{StageIs}
use Rattle.run_save_births.specs.Births.{AreBorn}
use Rattle.run_save_births.specs.Everywhere.{MachineApart, StepApart}

-- each operation keeps it
abbrev pub OperationIsBorn : Type 0
OperationIsBorn = (c : Code) (path : List ℕ) (n : ℕ) (m : Machine) → MachineApart path n m →
    StepApart path n (step c m)

abbrev pub StageIsBorn : Stage Forest → Type 0
StageIsBorn = StageIs AreBorn

-- in every state of a run between two turns
abbrev pub RunIsBorn : Type 0
RunIsBorn = (c : Code) (ns : List ℤ) (steps until k : ℕ) → StageIsBorn (mach_after c ns steps until
    k)

-- and of one that goes on from such a state
abbrev pub BirthsGoOn : Type 0
BirthsGoOn = (c : Code) (steps until k : ℕ) (s : State) (tss : Forest) → AreBorn s.clock.left tss →
    StageIsBorn (turns (turn_taken c steps until) k (going s tss))
