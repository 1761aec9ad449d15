-- When a machine stands for the run of its code after so many calls.
use Rattle.verse_base.specs.declared.limits.TheConstants.{MOST_NOW, MOST_STEPS}
use Rattle.std.specs.Prelude.{◌≡◌, ◌≤◌, ℕ, zero, suc, ℤ, List, [], ◌++◌, length, map, Option, Some}
use Rattle.std.specs.Prelude.{None}
use Rattle.verse_code.specs.declared.codes.Code.{Code}
use Rattle.verse_value.specs.Val.{int, array, vals}
use Rattle.verse_value.specs.View.{val_of}
use Rattle.verse_value.specs.Runs.{Line, Run}
use Rattle.verse_value.specs.declared.runs.Ending.{Ending}
use Rattle.verse_meaning_state.specs.State.{State, begun}
use Rattle.verse_meaning_state.specs.Turns.{Stage, going, closed, broken, amiss, run, run_closed}
use Rattle.verse_code_machine.specs.Tasks.{tree_waits}
use Rattle.verse_code_machine.specs.Runs.{Forest}
use Rattle.sim_clock.specs.declared.waits.Pending.{Pending}
use Rattle.tx_heap.specs.State.{State as Kept}
use Rattle.vm_running.specs.Views.{View, Aside, line_of, state_of}
use Rattle.vm_running.specs.Runners.{view_of}
use Rattle.vm_scheduler.specs.Going.{Resting}
use Rattle.vm_wake.specs.Starts.{Fresh, IsNew}
use Rattle.vm_run.specs.Origins.{Origin, from_inputs, from_state, stage_after, CanBeRun}
use Rattle.vm_run.specs.declared.machines.Vm.{Vm}
use Rattle.vm_run.specs.declared.machines.Phase.TheVariants as phase

-- the memory, the moment and the steps of a state, of whose lines these were drained; no mark is
-- open
pub record Shows (s : State) (past : List Line) (v : View) : Type 0 where
  pub trace : s.memory.trace ≡ past ++ map line_of v.trace.kept
  pub store : s.memory.store ≡ v.heap.cells
  pub moment : s.clock.now ≡ v.moment
  pub steps : s.clock.spent ≡ v.spent
  pub copies : v.heap.copies ≡ []
  pub marks : v.trace.marks ≡ []

module _ {H W : Type 0} where
  -- it has the bounds, which are within the limits, and a run can begin so
  pub record IsBound (c : Code) (origin : Origin) (steps until : ℕ) (m : Vm H W) : Type 0 where
    pub steps_are : m.bounds.steps ≡ steps
    pub until_is : m.bounds.until ≡ until
    pub can : CanBeRun c origin steps
    pub few_steps : steps ≤ MOST_STEPS
    pub near : until ≤ MOST_NOW

module _ {H W : Type 0} (state : H → Kept) (pending : W → List Pending) where
  -- how many waits are live, where that counts
  abbrev pub LiveIs : Option ℕ → Vm H W → Type 0
  LiveIs None m = Unit {0}
  LiveIs (Some live) m = live ≡ length (pending m.tasks.gone.waits)

  -- the run is over: it has the ending of a run, its trace, of which these lines were drained, and
  -- its store
  pub record IsEnd (r : Run) (past : List Line) (m : Vm H W) : Type 0 where
    pub ended : m.phase ≡ phase.Ended r.ending
    pub trace : r.trace ≡ past ++ map line_of m.run.trace.kept
    pub store : r.store ≡ (state m.run.heap).cells
    pub moment : r.now ≡ m.run.moment
    pub steps : r.steps ≡ m.run.spent
    pub live : LiveIs r.live m
    pub copies : (state m.run.heap).copies ≡ []
    pub marks : m.run.trace.marks ≡ []

  -- the tasks of these trees are suspended
  pub record IsResting (s : State) (trees : Forest) (past : List Line) (m : Vm H W) : Type 0 where
    pub aside : Aside
    pub same : aside.past ≡ past
    pub is : s ≡ state_of aside (view_of state m.run)
    pub resting : Resting pending aside trees (view_of state m.run) m.tasks

  -- between two turns
  pub record IsBetween (s : State) (trees : Forest) (past : List Line) (m : Vm H W) : Type 0 where
    pub between : m.phase ≡ phase.Between
    pub rests : IsResting s trees past m
    pub shows : Shows s past (view_of state m.run)

  -- the run is over before a turn
  pub record IsClosed (e : Ending) (s : State) (trees : Forest) (past : List Line) (m : Vm H W) :
      Type 0 where
    pub rests : IsResting s trees past m
    pub end : IsEnd (run_closed e s (length (tree_waits trees))) past m

  abbrev pub Holds : Stage Forest → List Line → Vm H W → Type 0
  Holds (going s trees) past m = IsBetween s trees past m
  Holds (closed e s trees) past m = IsClosed e s trees past m
  Holds (broken e s) past m = IsEnd (run s e None) past m
  Holds (amiss s) past m = ⊥

  -- nothing has begun: it has the inputs and all steps
  pub record IsUnbegun (ns : List ℤ) (steps : ℕ) (past : List Line) (m : Vm H W) : Type 0 where
    pub unbegun : m.phase ≡ phase.Unbegun
    pub none : past ≡ []
    pub inputs : val_of m.inputs ≡ array (vals (map int ns))
    pub left : m.run.left ≡ steps
    pub fresh : Fresh (view_of state m.run)
    pub new : IsNew pending m.tasks
    pub shows : Shows (begun steps) past (view_of state m.run)

  -- what it holds before the first call
  abbrev pub HoldsFirst : Origin → (steps : ℕ) → List Line → Vm H W → Type 0
  HoldsFirst (from_inputs ns) steps past m = IsUnbegun ns steps past m
  HoldsFirst (from_state s trees) steps past m = Holds (going s trees) past m

  -- what it holds after so many calls: the first starts `Main` where the run is from inputs, and
  -- each other one takes a turn
  abbrev pub HoldsAfter : Code → Origin → (steps until k : ℕ) → List Line → Vm H W → Type 0
  HoldsAfter c origin steps until zero past m = HoldsFirst origin steps past m
  HoldsAfter c origin steps until (suc k) past m = Holds (stage_after c origin steps until k) past m

  -- it stands for the run of a code from an origin with these bounds after so many calls, and these
  -- lines were drained
  pub record At (c : Code) (origin : Origin) (steps until k : ℕ) (past : List Line) (m : Vm H W) :
      Type 0 where
    pub bound : IsBound c origin steps until m
    pub holds : HoldsAfter c origin steps until k past m

  -- it stands for some run of the code, or there was no memory for it
  pub data Belongs (c : Code) (m : Vm H W) : Type 0 where
    stands : (origin : Origin) (steps until k : ℕ) (past : List Line) →
        At c origin steps until k past m → Belongs c m
    lost : m.phase ≡ phase.Lost → Belongs c m
