-- What a group waits for: between all operations of a run, and between its turns, no group stands
-- that has its value.
use Rattle.std.specs.Prelude.{◌≡◌, ℕ, ℤ, List, [], ◌∷◌, None}
use Rattle.verse_code.specs.declared.codes.Code.{Code}
use Rattle.verse_meaning_state.specs.Turns.{Kind, sync, race, rush, Stage, going, closed}
use Rattle.verse_meaning_state.specs.Turns.{broken, amiss}
use Rattle.verse_code_machine.specs.Tasks.{Part, Rest, asleep, group, Task, Up, begins, branching}
use Rattle.verse_code_machine.specs.Tasks.{spawning, clearing, World, Machine}
use Rattle.verse_code_machine.specs.Ends.{all_did, first_did}
use Rattle.verse_code_machine.specs.Runs.{Forest, mach_after}
use Rattle.verse_code_machine_parents.specs.Parents.{EachTask}
use Rattle.verse_code_machine_contexts.specs.Runs.{InRun}

-- a sync waits for an arm that has no value, a race or a rush for the first value
abbrev pub NoValue : Kind → List Part → Type 0
NoValue sync gs = all_did gs ≡ None
NoValue race gs = first_did gs ≡ None
NoValue rush gs = first_did gs ≡ None

abbrev pub Waits : Rest → Type 0
Waits (asleep w) = Unit {0}
Waits (group k p gs) = NoValue k gs

abbrev pub TasksWait : List Task → Type 0
TasksWait = EachTask (λ t. Waits t.rest)

abbrev pub ForestWaits : Forest → Type 0
ForestWaits [] = Unit {0}
ForestWaits (ts ∷ tss) = TasksWait ts × ForestWaits tss

-- a race that still begins its arms has no value; another group begins all of them
abbrev pub StillBegins : Kind → List Part → Type 0
StillBegins sync gs = Unit {0}
StillBegins race gs = first_did gs ≡ None
StillBegins rush gs = Unit {0}

-- the tasks that wait for the one that runs, and those of the trees in which they stand
abbrev pub UpsWait : List Up → Type 0
UpsWait [] = Unit {0}
UpsWait (begins x k p gs n ls ∷ us) = StillBegins k gs × UpsWait us
UpsWait (branching x ∷ us) = UpsWait us
UpsWait (spawning x entry ps qs ∷ us) = TasksWait ps × TasksWait qs × UpsWait us
UpsWait (clearing a ts ∷ us) = UpsWait us

pub record WorldWaits (o : World) : Type 0 where
  pub pre : TasksWait o.pre
  pub post : TasksWait o.post
  pub ups : UpsWait o.ups
  pub before : ForestWaits o.trees.before
  pub behind : ForestWaits o.trees.behind

abbrev pub StageWaits : Stage Forest → Type 0
StageWaits (going s tss) = ForestWaits tss
StageWaits (closed e s tss) = ForestWaits tss
StageWaits (broken e s) = Unit {0}
StageWaits (amiss s) = Unit {0}

-- In every run: at each operation, and after each number of turns.
pub record RunWaits (c : Code) (ns : List ℤ) (steps until : ℕ) : Type 0 where
  pub machine : (m : Machine) → InRun c ns steps until m → WorldWaits m.world
  pub stage : (k : ℕ) → StageWaits (mach_after c ns steps until k)

abbrev pub GroupsWait : Type 0
GroupsWait = (c : Code) (ns : List ℤ) (steps until : ℕ) → RunWaits c ns steps until
