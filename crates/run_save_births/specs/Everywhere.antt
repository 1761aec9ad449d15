-- What holds of the name and the births of each task, wherever it stands.
use Rattle.std.specs.Prelude.{◌≡◌, ◌⊎◌, ◌≤◌, ℕ, List, [], ◌∷◌, ◌++◌}
use Rattle.verse_code_machine.specs.Tasks.{Frame, Who, Part, Thread, Task, After, Up}
use Rattle.verse_code_machine.specs.Tasks.{World, Machine, Step}
use Rattle.verse_code_machine.specs.Runs.{Forest}
use Rattle.verse_code_machine_births.specs.Everywhere as every
use Rattle.verse_code_machine_births.specs.Stages.{StepIs}
use Rattle.run_save_shots.specs.Lists.{Each}
use Rattle.run_save_births.specs.Births.{births, Rising, KeepsBirth}

module _ (T : Who → List ℕ → Type 0) where
  -- of the frames that a task has left
  abbrev pub FramesAre : Who → List Frame → Type 0
  FramesAre w [] = Unit {0}
  FramesAre w (f ∷ fs) = T w (births (f ∷ fs)) × Each KeepsBirth (f ∷ fs)

  abbrev pub ThreadIs : Thread → Type 0
  ThreadIs x = FramesAre x.who (x.frame ∷ x.below)

  abbrev pub TaskIs : Task → Type 0
  TaskIs t = ThreadIs t.thread

  abbrev pub BeginsIs : Thread → List Part → ℕ → Type 0
  BeginsIs x gs number = ThreadIs x

  abbrev pub TasksAre : List Task → Type 0
  TasksAre = every.TasksAre ThreadIs TaskIs BeginsIs

  abbrev pub TreesAre : Forest → Type 0
  TreesAre = every.TreesAre ThreadIs TaskIs BeginsIs

  abbrev pub AfterIs : After → Type 0
  AfterIs = every.AfterIs ThreadIs TaskIs BeginsIs

  abbrev pub UpIs : Up → Type 0
  UpIs = every.UpIs ThreadIs TaskIs BeginsIs

  abbrev pub UpsAre : List Up → Type 0
  UpsAre = every.UpsAre ThreadIs TaskIs BeginsIs

  abbrev pub WorldIs : World → Type 0
  WorldIs = every.WorldIs ThreadIs TaskIs BeginsIs

  pub record MachineIs (m : Machine) : Type 0 where
    pub frames : FramesAre m.who (m.frame ∷ m.below)
    pub world : WorldIs m.world

-- the frames began one after the other, and the task no later than now
pub record Stands (left : ℕ) (w : Who) (ns : List ℕ) : Type 0 where
  pub rises : Rising left ns
  pub above : Each (λ n. left ≤ n) w.path

module _ (path : List ℕ) (n : ℕ) where
  -- no frame of the path's task was born then
  pub record Unborn (left : ℕ) (w : Who) (ns : List ℕ) : Type 0 where
    pub stands : Stands left w ns
    pub other : w.path ≡ path → Each (λ k. k ≡ n → ⊥) ns

  -- the task is not its child of that number
  pub record NotChild (left : ℕ) (w : Who) (ns : List ℕ) : Type 0 where
    pub stands : Stands left w ns
    pub other : w.path ≡ path ++ n ∷ [] → ⊥

  -- one of these holds of all tasks
  abbrev pub MachineApart : Machine → Type 0
  MachineApart m = MachineIs (Unborn m.state.clock.left) m ⊎ MachineIs (NotChild
      m.state.clock.left) m

  abbrev pub TreesApart : ℕ → Forest → Type 0
  TreesApart left tss = TreesAre (Unborn left) tss ⊎ TreesAre (NotChild left) tss

  abbrev pub StepApart : Step → Type 0
  StepApart = StepIs TreesApart MachineApart
