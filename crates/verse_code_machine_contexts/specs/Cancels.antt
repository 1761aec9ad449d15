-- How tasks are cancelled: their deferred blocks run, in order, and nothing else, before what waits
-- for them goes on.
use Rattle.std.specs.Prelude.{◌≡◌, ℕ, suc, List, [], ◌∷◌, ◌++◌, Some, Bool, false}
use Rattle.verse_code.specs.declared.operations.Op.TheVariants as does
use Rattle.verse_code.specs.declared.codes.Code.{Code}
use Rattle.verse_value.specs.declared.runs.Ending.{Ending}
use Rattle.verse_value.specs.declared.runs.Ending.TheVariants as ending
use Rattle.verse_meaning_state.specs.State.{State, stepped}
use Rattle.verse_code_machine.specs.Tasks.{Frame, gone, Who, Task, After, clearing, World, world}
use Rattle.verse_code_machine.specs.Tasks.{Machine, Step, Next, Over, machine}
use Rattle.verse_code_machine.specs.Cancelling.{without, gone_before, gone_behind, cancelled}
use Rattle.verse_code_machine.specs.Cancelling.{world_without}
use Rattle.verse_code_machine.specs.Ends.{follows}
use Rattle.verse_code_machine.specs.Runs.{step}
use Rattle.verse_code_machine_parents.specs.Parents.{EachTask}
use Rattle.verse_code_machine_parents.specs.Cancelled.{Splits}
use Rattle.verse_code_machine_contexts.specs.Runs.{op_at, Comes}
use Rattle.verse_code_machine_contexts.specs.Contexts.{StepsAlone}

-- the second frames are the first, with some on top
pub data OnTop (fs : List Frame) : List Frame → Type 0 where
  same : OnTop fs fs
  more : {f : Frame} {gs : List Frame} → OnTop fs gs → OnTop fs (f ∷ gs)

-- what cancelling comes to
pub data Outcome : Type 0 where
  -- a deferred block runs, or the run has ended in one
  within : Step → Outcome
  -- all deferred blocks have run
  through : State → Outcome

module _ (c : Code) (after : After) (o : World) where
  -- the world in which deferred blocks run: what waits for them, and the tasks that are cancelled
  -- next
  abbrev pub clearing_world : List Task → World
  clearing_world ts = world o.pre o.post (clearing after ts ∷ o.ups) o.trees

  -- the task w runs, on top of these frames; no other task has changed
  pub record OfTask (w : Who) (fs : List Frame) (ts : List Task) (m : Machine) : Type 0 where
    pub who : m.who ≡ w
    pub world : m.world ≡ clearing_world ts
    pub frames : OnTop fs m.below

  -- operations of it, one after another
  pub data Acts (w : Who) (fs : List Frame) (ts : List Task) : Machine → Machine → Type 0 where
    stands : {m : Machine} → OfTask w fs ts m → Acts w fs ts m m
    goes_on : {m k n : Machine} → OfTask w fs ts m → step c m ≡ Next k → Acts w fs ts k n →
        Acts w fs ts m n

  -- the last deferred block of a frame begins
  abbrev pub block : Who → Frame → (rest : List ℕ) → (place : ℕ) → List Frame → List Task →
      State → Machine
  block w f ds d fs ts s = machine w (clearing_world ts) s
      (record { born = f.life.born; defers = ds; noted = gone ∷ f.life.noted }) f.locals f.stack
      d [] fs

  -- a frame as its deferred block leaves it
  abbrev pub left_by : Machine → Frame
  left_by m = record {
    life = record { born = m.frame.life.born; defers = m.frame.life.defers; noted = [] };
    locals = m.frame.locals;
    stack = m.frame.stack;
    place = m.frame.place;
    handlers = [];
  }

  mutual
    -- tasks are cancelled one after another
    pub data CancelsTasks : List Task → State → Outcome → Type 0 where
      no_task : {s : State} → CancelsTasks [] s (through s)
      task : {t : Task} {ts : List Task} {s : State} {x : Outcome} →
          CancelsFrames t.thread.who (t.thread.frame ∷ t.thread.below) ts s x →
          CancelsTasks (t ∷ ts) s x

    -- of a task the frames go, the last first, each when its deferred blocks have run, the last
    -- first
    pub data CancelsFrames : Who → List Frame → List Task → State → Outcome → Type 0 where
      no_frame : {w : Who} {ts : List Task} {s : State} {x : Outcome} → CancelsTasks ts s x →
          CancelsFrames w [] ts s x
      frame : {w : Who} {f : Frame} {fs : List Frame} {ts : List Task} {s : State} {x : Outcome} →
          f.life.defers ≡ [] → CancelsFrames w fs ts s x → CancelsFrames w (f ∷ fs) ts s x
      -- a block begins, for a step, and runs to its DeferEnd
      deferred : {w : Who} {f : Frame} {fs : List Frame} {ts : List Task} {s : State}
          {x : Outcome} {d left : ℕ} {ds : List ℕ} {n : Machine} → f.life.defers ≡ d ∷ ds →
          s.clock.left ≡ suc left → Acts w fs ts (block w f ds d fs ts (stepped left s)) n →
          n.below ≡ fs → op_at c n ≡ Some does.DeferEnd →
          CancelsFrames w (left_by n ∷ fs) ts n.state x → CancelsFrames w (f ∷ fs) ts s x
      no_step : {w : Who} {f : Frame} {fs : List Frame} {ts : List Task} {s : State} {d : ℕ}
          {ds : List ℕ} → f.life.defers ≡ d ∷ ds → s.clock.left ≡ 0 →
          CancelsFrames w (f ∷ fs) ts s (within (Over ending.Steps s))
      runs : {w : Who} {f : Frame} {fs : List Frame} {ts : List Task} {s : State} {d left : ℕ}
          {ds : List ℕ} {n : Machine} → f.life.defers ≡ d ∷ ds → s.clock.left ≡ suc left →
          Acts w fs ts (block w f ds d fs ts (stepped left s)) n →
          CancelsFrames w (f ∷ fs) ts s (within (Next n))
      ends : {w : Who} {f : Frame} {fs : List Frame} {ts : List Task} {s u : State} {d left : ℕ}
          {ds : List ℕ} {n : Machine} {e : Ending} → f.life.defers ≡ d ∷ ds →
          s.clock.left ≡ suc left → Acts w fs ts (block w f ds d fs ts (stepped left s)) n →
          step c n ≡ Over e u → CancelsFrames w (f ∷ fs) ts s (within (Over e u))

-- The tasks of such names have been cancelled, and what waits for that has gone on to the step r:
-- from their deferred blocks alone, in a world without them.
pub record WentOn (c : Code) (after : After) (f : List ℕ → Bool) (o : World) (s : State)
    (r : Step) : Type 0 where
  pub state : State
  pub clock : StepsAlone s.clock state.clock
  pub blocks : CancelsTasks c after (world_without f o) (cancelled f o) s (through state)
  -- of the tasks in its tree those of such names are cancelled, each once, and the others stay
  pub before : Splits f o.pre (gone_before f o.pre) (without f o.pre)
  pub behind : Splits f o.post (gone_behind f o.post) (without f o.post)
  -- no task that waits has gone, and no spawned one
  pub ups : (world_without f o).ups ≡ o.ups
  pub trees : (world_without f o).trees ≡ o.trees
  pub none_left : EachTask (λ t. f t.thread.who.path ≡ false)
      ((world_without f o).pre ++ (world_without f o).post)
  pub comes : Comes c (follows after (world_without f o) state) r

-- The step r comes after some operations from where tasks of such names are cancelled.
pub data Cancels (c : Code) (after : After) (f : List ℕ → Bool) (o : World) (s : State) (r : Step) :
    Type 0 where
  clears : CancelsTasks c after (world_without f o) (cancelled f o) s (within r) →
      Cancels c after f o s r
  went_on : WentOn c after f o s r → Cancels c after f o s r
