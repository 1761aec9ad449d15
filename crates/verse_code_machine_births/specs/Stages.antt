-- What holds behind an operation, and of a run between two turns.
use Rattle.std.specs.Prelude.{ℕ}
use Rattle.verse_meaning_state.specs.Turns.{Stage, going, closed, broken, amiss}
use Rattle.verse_code_machine.specs.Tasks.{Machine, Step, Next, Over, Turn}
use Rattle.verse_code_machine.specs.Runs.{Forest}

-- of the tasks, where so many steps are left
module _ (OfTrees : ℕ → Forest → Type 0) where
  abbrev pub StageIs : Stage Forest → Type 0
  StageIs (going s tss) = OfTrees s.clock.left tss
  StageIs (closed e s tss) = OfTrees s.clock.left tss
  StageIs (broken e s) = Unit {0}
  StageIs (amiss s) = Unit {0}

  -- and of a machine
  module _ (OfMachine : Machine → Type 0) where
    abbrev pub StepIs : Step → Type 0
    StepIs (Next m) = OfMachine m
    StepIs (Over e s) = Unit {0}
    StepIs (Turn s tss) = OfTrees s.clock.left tss
