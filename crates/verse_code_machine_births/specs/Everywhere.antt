-- What holds of all tasks, wherever they stand.
use Rattle.std.specs.Prelude.{ℕ, List, [], ◌∷◌}
use Rattle.verse_code_machine.specs.Tasks.{Part, Thread, Task, After, resuming, closing, finishing}
use Rattle.verse_code_machine.specs.Tasks.{Up, begins, branching, spawning, clearing, World}
use Rattle.verse_code_machine.specs.Runs.{Forest}

-- of a task that goes on next, of one that rests, and of one that starts the arms of its group:
-- those before, and the number of the one that runs
module _ (OfThread : Thread → Type 0) (OfTask : Task → Type 0)
    (OfBegins : Thread → List Part → ℕ → Type 0) where
  abbrev pub TasksAre : List Task → Type 0
  TasksAre [] = Unit {0}
  TasksAre (t ∷ ts) = OfTask t × TasksAre ts

  abbrev pub TreesAre : Forest → Type 0
  TreesAre [] = Unit {0}
  TreesAre (ts ∷ tss) = TasksAre ts × TreesAre tss

  abbrev pub AfterIs : After → Type 0
  AfterIs (resuming x v) = OfThread x
  AfterIs (closing w v) = Unit {0}
  AfterIs (finishing w entry v) = Unit {0}

  abbrev pub UpIs : Up → Type 0
  UpIs (begins x k p gs number ls) = OfBegins x gs number
  UpIs (branching x) = OfThread x
  UpIs (spawning x entry ps qs) = OfThread x × (TasksAre ps × TasksAre qs)
  UpIs (clearing a ts) = AfterIs a × TasksAre ts

  abbrev pub UpsAre : List Up → Type 0
  UpsAre [] = Unit {0}
  UpsAre (u ∷ us) = UpIs u × UpsAre us

  pub record WorldIs (o : World) : Type 0 where
    pub pre : TasksAre o.pre
    pub post : TasksAre o.post
    pub ups : UpsAre o.ups
    pub before : TreesAre o.trees.before
    pub behind : TreesAre o.trees.behind
