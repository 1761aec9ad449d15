-- The arms of a group began later than each frame of the task that stands at it.
use Rattle.std.specs.Prelude.{◌<◌, ℕ, List, [], ◌∷◌, ◌++◌}
use Rattle.verse_code_machine.specs.Tasks.{Part, did, runs, Rest, asleep, group, Thread, Task}
use Rattle.verse_code_machine.specs.Tasks.{After, Up, World, Machine, Step}
use Rattle.verse_code_machine.specs.Runs.{Forest}
use Rattle.verse_code_machine_births.specs.Everywhere as every
use Rattle.verse_code_machine_births.specs.Stages as stages
use Rattle.verse_code_machine_births.specs.Births.{FramesBorn}

-- each arm that runs has a number below the birth
abbrev pub ArmsBelow : ℕ → List Part → Type 0
ArmsBelow born [] = Unit {0}
ArmsBelow born (did v ∷ gs) = ArmsBelow born gs
ArmsBelow born (runs n ∷ gs) = (n < born) × ArmsBelow born gs

abbrev pub RestBelow : ℕ → Rest → Type 0
RestBelow born (asleep w) = Unit {0}
RestBelow born (group k p gs) = ArmsBelow born gs

-- Where so many steps are left, every frame began with no fewer, and the arms of a task later than
-- its top frame, wherever it stands.
module _ (left : ℕ) where
  abbrev pub ThreadIs : Thread → Type 0
  ThreadIs x = FramesBorn left (x.frame ∷ x.below)

  abbrev pub TaskIs : Task → Type 0
  TaskIs t = ThreadIs t.thread × RestBelow t.thread.frame.life.born t.rest

  -- of a task that starts the arms of its group: those before and the one that runs
  abbrev pub BeginsIs : Thread → List Part → ℕ → Type 0
  BeginsIs x gs n = ThreadIs x × ArmsBelow x.frame.life.born (gs ++ runs n ∷ [])

  abbrev pub TasksAre : List Task → Type 0
  TasksAre = every.TasksAre ThreadIs TaskIs BeginsIs

  abbrev pub TreesAre : Forest → Type 0
  TreesAre = every.TreesAre ThreadIs TaskIs BeginsIs

  abbrev pub AfterIs : After → Type 0
  AfterIs = every.AfterIs ThreadIs TaskIs BeginsIs

  abbrev pub UpIs : Up → Type 0
  UpIs = every.UpIs ThreadIs TaskIs BeginsIs

  abbrev pub UpsAre : List Up → Type 0
  UpsAre = every.UpsAre ThreadIs TaskIs BeginsIs

  abbrev pub WorldIs : World → Type 0
  WorldIs = every.WorldIs ThreadIs TaskIs BeginsIs

  pub record MachineIs (m : Machine) : Type 0 where
    pub frames : FramesBorn left (m.frame ∷ m.below)
    pub world : WorldIs m.world

abbrev pub StepIs : Step → Type 0
StepIs = stages.StepIs TreesAre (λ m. MachineIs m.state.clock.left m)
