-- Every frame began when no fewer steps were left than are left: in every state of every run.
use Rattle.std.specs.Prelude.{ℕ, ◌≤◌, ℤ, List}
use Rattle.verse_code.specs.declared.codes.Code.{Code}
use Rattle.verse_meaning_state.specs.Turns.{Stage}
use Rattle.verse_code_machine.specs.Tasks.{Frame, Who, Machine, Step}
use Rattle.verse_code_machine.specs.Runs.{step, Forest, mach_after}
use Rattle.verse_code_machine_births.specs.Stages.{StageIs, StepIs}
use Rattle.verse_code_machine_births.specs.Framed.{FramesAre, TreesAre, MachineIs}

-- of any name
abbrev pub Anyone : Who → Type 0
Anyone w = Unit {0}

abbrev pub FramesBorn : ℕ → List Frame → Type 0
FramesBorn left = FramesAre (λ born. left ≤ born) Anyone

abbrev pub TreesBorn : ℕ → Forest → Type 0
TreesBorn left = TreesAre (λ born. left ≤ born) Anyone

abbrev pub MachineBorn : Machine → Type 0
MachineBorn m = MachineIs (λ born. m.state.clock.left ≤ born) Anyone m

abbrev pub StepBorn : Step → Type 0
StepBorn = StepIs TreesBorn MachineBorn

abbrev pub StageBorn : Stage Forest → Type 0
StageBorn = StageIs TreesBorn

-- each operation keeps it
abbrev pub OperationKeepsBirths : Type 0
OperationKeepsBirths = (c : Code) (m : Machine) → MachineBorn m → StepBorn (step c m)

-- it holds between all turns of a run
abbrev pub RunKeepsBirths : Type 0
RunKeepsBirths = (c : Code) (ns : List ℤ) (steps until k : ℕ) → StageBorn (mach_after c ns steps
    until k)
