-- What holds of how all frames began and of the names of all tasks, wherever they stand.
use Rattle.std.specs.Prelude.{ℕ, List, [], ◌∷◌}
use Rattle.verse_code_machine.specs.Tasks.{Handler, Frame, Who, Part, Thread, Task, After, Up}
use Rattle.verse_code_machine.specs.Tasks.{World, Machine}
use Rattle.verse_code_machine.specs.Runs.{Forest}
use Rattle.verse_code_machine_births.specs.Everywhere as every

-- one of how many steps were left when each frame began, the other of each task's name
module _ (Born : ℕ → Type 0) (Named : Who → Type 0) where
  -- a failure goes back to what the innermost handler keeps of its frame
  abbrev pub HandlersAre : List Handler → Type 0
  HandlersAre [] = Unit {0}
  HandlersAre (h ∷ hs) = Born h.life.born × HandlersAre hs

  abbrev pub FrameIs : Frame → Type 0
  FrameIs f = Born f.life.born × HandlersAre f.handlers

  abbrev pub FramesAre : List Frame → Type 0
  FramesAre [] = Unit {0}
  FramesAre (f ∷ fs) = FrameIs f × FramesAre fs

  abbrev pub ThreadIs : Thread → Type 0
  ThreadIs x = Named x.who × (FrameIs x.frame × FramesAre x.below)

  abbrev pub TaskIs : Task → Type 0
  TaskIs t = ThreadIs t.thread

  abbrev pub BeginsIs : Thread → List Part → ℕ → Type 0
  BeginsIs x gs number = ThreadIs x

  abbrev pub TasksAre : List Task → Type 0
  TasksAre = every.TasksAre ThreadIs TaskIs BeginsIs

  abbrev pub TreesAre : Forest → Type 0
  TreesAre = every.TreesAre ThreadIs TaskIs BeginsIs

  abbrev pub AfterIs : After → Type 0
  AfterIs = every.AfterIs ThreadIs TaskIs BeginsIs

  abbrev pub UpIs : Up → Type 0
  UpIs = every.UpIs ThreadIs TaskIs BeginsIs

  abbrev pub UpsAre : List Up → Type 0
  UpsAre = every.UpsAre ThreadIs TaskIs BeginsIs

  abbrev pub WorldIs : World → Type 0
  WorldIs = every.WorldIs ThreadIs TaskIs BeginsIs

  pub record MachineIs (m : Machine) : Type 0 where
    pub who : Named m.who
    pub frame : FrameIs m.frame
    pub below : FramesAre m.below
    pub world : WorldIs m.world
