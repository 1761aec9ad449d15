-- What the tree of tasks and the definition come to together: after a cancelling, at the end of a
-- part, at a waking.
use Rattle.std.specs.Prelude.{◌≡◌, ℕ, Bool, List, [], ◌∷◌, ◌++◌, Some, None}
use Rattle.task_tree.specs.Tasks.{Task, task_at, with_item, without}
use Rattle.verse_value.specs.Val.{Val}
use Rattle.verse_meaning_state.specs.State.{State}
use Rattle.verse_meaning_state.specs.Waits.{Wait, Due}
use Rattle.verse_code_machine.specs.Tasks as m
use Rattle.verse_code_machine.specs.Tasks.{Frame, Who, Part, asleep, Trees, World, world, onto}
use Rattle.verse_code_machine.specs.Tasks.{among}
use Rattle.verse_code_machine.specs.Cancelling.{world_without, cancelled}
use Rattle.verse_code_machine.specs.Ends.{resumes, with_did, joined, climbs, woken_in}
use Rattle.sim_clock.specs.declared.waits.Due.{Due as ClockDue}
use Rattle.vm_tasks_laws.specs.Slots.{Slot, by_machine, by_itself, Entry, slept, held, arms_at}
use Rattle.vm_tasks_laws.specs.Slots.{Shows}
use Rattle.vm_tasks_laws.specs.Standing.{Stands, Rests}
use Rattle.vm_tasks_laws.specs.Told.{AllPairs, IsTold, backwards}
use Rattle.vm_tasks_laws.specs.Clocks.{value_for}

-- those of a list before others, the nearest first
abbrev pub passed : List m.Task → List m.Task → List m.Task
passed [] xs = xs
passed (y ∷ ys) xs = passed ys (y ∷ xs)

module _ {T : Type 0} (slot : T → Slot) where
  -- what is cancelled is gone on both sides, and was told in the definition's order
  pub record CancelledToo (tasks gone new : List (Task T)) (ids : List ℕ) (e : Entry) (o : World)
      (f : List ℕ → Bool) : Type 0 where
    pub stands : Stands slot new ids (e ∷ []) (world_without f o)
    pub told : AllPairs (IsTold slot) (backwards gone) (cancelled f o)
    pub first : List (Task T)
    pub last : List (Task T)
    pub were : tasks ≡ first ++ (gone ++ last)
    pub are : new ≡ first ++ last

  -- the parent of a task that is over, in the tree and among those behind
  pub record Joins (tasks : List (Task T)) (i : ℕ) (w : Who) (xs ys : List m.Task) (trees : Trees) :
      Type 0 where
    pub id : ℕ
    pub task : Task T
    pub earlier : List m.Task
    pub parent : m.Task
    pub later : List m.Task
    pub of_it : (u : Task T) → task_at i tasks ≡ Some u → u.parent ≡ Some id
    pub at_it : task_at id (without i tasks) ≡ Some task
    pub shows : Shows id (slot task.item).held (slept parent)
    pub found : (v : Val) (s : State) → climbs w.up w.number v xs ys trees s ≡
        joined w.number v parent.rest parent (passed earlier xs) later trees s
    -- it waits on, or goes on with its group
    pub stays : Rests slot (without i tasks)
        (among (onto (passed earlier xs) (parent ∷ later)) trees)
    pub goes : (item : T) (v : Val) (gs : List Part) →
        slot item ≡ record (slot task.item) { held = by_machine } → arms_at parent.rest ≡ Some gs →
        Stands slot (with_item id (without i tasks) item) []
        (held id parent.thread.who (Some (with_did w.number v gs)) ∷ [])
        (world (passed earlier xs) later [] trees)

  -- the task whose wait is due
  pub record Wakes (tasks : List (Task T)) (tss : List (List m.Task)) (s : State) (d : Due)
      (e : ClockDue) (u : State) : Type 0 where
    pub task : Task T
    pub frame : Frame
    pub below : List Frame
    pub wait : Wait
    pub it : m.Task
    pub other : World
    pub at_it : task_at e.task tasks ≡ Some task
    pub asleep_is : (slot task.item).held ≡ by_itself frame below (asleep wait)
    pub number : wait.number ≡ d.number
    pub value : value_for s wait.cause e.cause ≡ Some d.given.value
    pub frame_is : it.thread.frame ≡ frame
    pub below_is : it.thread.below ≡ below
    pub goes_on : woken_in d.number d.given.value [] tss u ≡ resumes it.thread d.given.value other u
    pub stands : (item : T) → slot item ≡ record (slot task.item) { held = by_machine } →
        Stands slot (with_item e.task tasks item) [] (held e.task it.thread.who None ∷ []) other
