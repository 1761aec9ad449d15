-- Races: where an arm ends with a value, the others are cancelled, before what is behind the group.
-- Of a rush they are left behind.
use Rattle.std.specs.Prelude.{◌≡◌, ℕ, ℤ, List, [], ◌∷◌, ◌++◌, Some, true, false}
use Rattle.verse_base.specs.declared.places.Place.{Place}
use Rattle.verse_code.specs.declared.codes.Code.{Code}
use Rattle.verse_value.specs.Val.{Val}
use Rattle.verse_meaning_state.specs.State.{State}
use Rattle.verse_meaning_state.specs.Turns.{Kind, race, rush}
use Rattle.verse_code_machine.specs.Tasks.{Who, Part, did, group, Thread, Task, closing}
use Rattle.verse_code_machine.specs.Tasks.{resuming, Up, begins, World, world, Machine, Step, onto}
use Rattle.verse_code_machine.specs.Tasks.{same_path, beneath_arms}
use Rattle.verse_code_machine.specs.Cancelling.{world_without}
use Rattle.verse_code_machine.specs.Ends.{resumes, first_did, is_run, with_did, follows}
use Rattle.verse_code_machine.specs.Runs.{step}
use Rattle.verse_code_machine_parents.specs.Parents.{EachTask}
use Rattle.verse_code_machine_contexts.specs.Runs.{Comes, InRun}
use Rattle.verse_code_machine_contexts.specs.Cancels.{Cancels}
use Rattle.verse_code_machine_contexts.specs.Scopes.{EndsFrame, begun_by}

-- The arm w of a group has ended with a value, in the world o: its parent x, the arms with that
-- value, the labels of those that have not begun, and the world in which the parent would go on.
pub data Joins (w : Who) (v : Val) (o : World) : Kind → Thread → List Part → List ℕ → World → Type 0
  where
    -- the parent still begins its arms
    beginning : (k : Kind) (p : Place) (gs : List Part) (n : ℕ) (ls : List ℕ) (x : Thread)
        (us : List Up) → o.ups ≡ begins x k p gs n ls ∷ us →
        Joins w v o k x (gs ++ did v ∷ []) ls (world o.pre o.post us o.trees)
    -- the parent stands among the tasks behind, at its group
    standing : (k : Kind) (p : Place) (gs : List Part) (y : Task) (ts post : List Task) →
        o.ups ≡ [] → o.post ≡ ts ++ y ∷ post →
        EachTask (λ t. same_path w.up t.thread.who.path ≡ false) ts →
        same_path w.up y.thread.who.path ≡ true → y.rest ≡ group k p gs →
        is_run w.number gs ≡ true →
        Joins w v o k y.thread (with_did w.number v gs) [] (world (onto ts o.pre) post [] o.trees)

-- A name beneath an arm that has no value yet.
pub record BeneathArm (path : List ℕ) (gs : List Part) (x : List ℕ) : Type 0 where
  pub number : ℕ
  pub rest : List ℕ
  pub is_arm : is_run number gs ≡ true
  pub beneath : x ≡ path ++ number ∷ rest

-- These are all such names: with an arm all that it encloses.
pub record NamesBeneath (path : List ℕ) (gs : List Part) : Type 0 where
  pub are : (x : List ℕ) → beneath_arms path gs x ≡ true → BeneathArm path gs x
  pub all : (x : List ℕ) → BeneathArm path gs x → beneath_arms path gs x ≡ true

-- The machine m ends an arm with v; what the arm has begun is cancelled, in the state u.
pub record ArmEnds (c : Code) (m : Machine) (v : Val) (u : State) : Type 0 where
  pub ends : EndsFrame c m (closing m.who v)
  pub comes : Comes c (step c m)
      (follows (closing m.who v) (world_without (begun_by m) m.world) u)

-- No other arm has a value. The arms without one are cancelled, and what waits for that is the
-- parent with the value.
pub record RaceEnds (c : Code) (x : Thread) (v : Val) (gs : List Part) (o : World) (u : State)
    (r : Step) : Type 0 where
  pub first : first_did gs ≡ Some v
  pub names : NamesBeneath x.who.path gs
  pub cancels : Cancels c (resuming x v) (beneath_arms x.who.path gs) o u r

-- In every run: from where an arm of a race has ended, after any number of operations.
abbrev pub RacesCancel : Type 0
RacesCancel = (c : Code) (ns : List ℤ) (steps until : ℕ) (m : Machine) →
    InRun c ns steps until m → (v : Val) (u : State) → ArmEnds c m v u →
    (x : Thread) (gs : List Part) (ls : List ℕ) (o : World) →
    Joins m.who v (world_without (begun_by m) m.world) race x gs ls o → (r : Step) →
    Comes c (follows (closing m.who v) (world_without (begun_by m) m.world) u) r →
    RaceEnds c x v gs o u r

-- In every run: where an arm of a rush has ended, and all have begun, the parent goes on at once,
-- and every task stays.
abbrev pub RushesLeave : Type 0
RushesLeave = (c : Code) (ns : List ℤ) (steps until : ℕ) (m : Machine) →
    InRun c ns steps until m → (v : Val) (u : State) → ArmEnds c m v u →
    (x : Thread) (gs : List Part) (o : World) →
    Joins m.who v (world_without (begun_by m) m.world) rush x gs [] o →
    (value : Val) × (first_did gs ≡ Some value) ×
    (follows (closing m.who v) (world_without (begun_by m) m.world) u ≡ resumes x value o u)
