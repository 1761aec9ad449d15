-- What the end of a task, a waking and a falling asleep are in the machine's definition, for every
-- world that the tree stands for.
use Rattle.std.specs.Prelude.{◌≡◌, ◌≤◌, ℕ, List, [], ◌∷◌, ◌++◌, Option, Some, None}
use Rattle.task_tree.specs.Tasks.{Task, HasNoChild}
use Rattle.verse_base.specs.declared.places.Place.{Place}
use Rattle.verse_value.specs.Val.{Val}
use Rattle.verse_meaning_state.specs.State.{State, drawn}
use Rattle.verse_meaning_state.specs.Waits.{Due, nth}
use Rattle.verse_meaning_state.specs.Turns as turns
use Rattle.verse_code_machine.specs.Tasks as m
use Rattle.verse_code_machine.specs.Tasks.{Frame, root, part, Who, Part, did, Thread, Up, begins}
use Rattle.verse_code_machine.specs.Tasks.{branching, spawning, Trees, World, world, onto}
use Rattle.verse_code_machine.specs.Tasks.{among}
use Rattle.verse_code_machine.specs.Ends.{resumes, woken_in}
use Rattle.sim_clock.specs.declared.waits.WaitKind.{WaitKind}
use Rattle.sim_clock.specs.declared.waits.WaitKind.TheVariants.{At, Never, Task as OnTask, Event}
use Rattle.sim_clock.specs.declared.waits.Pending.{Pending}
use Rattle.sim_clock.specs.declared.waits.Due.{Due as ClockDue}
use Rattle.vm_tasks_laws.specs.Slots.{held}
use Rattle.vm_tasks_laws.specs.Standing.{Stands, Rests}
use Rattle.vm_tasks_laws.specs.Clocks.{cause_of, value_for, sleeping, Timed, NextIs}
use Rattle.vm_tasks_laws.specs.Together.{Joins}
use Rattle.vm_tasks.specs.declared.slots.Slot.{Slot}
use Rattle.vm_tasks.specs.declared.slots.Held.{Held}
use Rattle.vm_tasks.specs.declared.slots.Held.TheVariants.{Asleep}
use Rattle.vm_tasks.specs.declared.gone.Gone.{Gone}
use Rattle.vm_tasks.specs.View.{slot_of}

module _ {F : Type 0} where
  -- the task with this number has no children, where all of them began before it did
  abbrev pub IsAlone : List (Task (Slot F)) → (id bound : ℕ) → Type 0
  IsAlone tasks id bound =
      (frames : F → Frame × List Frame) (ids : List ℕ) (w : Who) (arms : Option (List Part))
      (o : World) → w.number ≤ bound → Stands (slot_of frames) tasks ids (held id w arms ∷ []) o →
      HasNoChild id tasks

  -- the end of a task, by what waits for it
  pub record Ended (old new : List (Task (Slot F))) (id : ℕ) : Type 0 where
    -- an arm as it began
    pub arm : (frames : F → Frame × List Frame) (j : ℕ) (ids : List ℕ) (w : Who) (x : Thread)
        (k : turns.Kind) (p : Place) (gs : List Part) (n : ℕ) (ls : List ℕ) (us : List Up)
        (xs ys : List m.Task) (trees : Trees) (v : Val) →
        Stands (slot_of frames) old (j ∷ ids) (held id w None ∷ [])
        (world xs ys (begins x k p gs n ls ∷ us) trees) →
        Stands (slot_of frames) new ids (held j x.who (Some (gs ++ did v ∷ [])) ∷ [])
        (world xs ys us trees)
    -- a task behind as it began
    pub behind : (frames : F → Frame × List Frame) (j : ℕ) (ids : List ℕ) (w : Who) (x : Thread)
        (us : List Up) (xs ys : List m.Task) (trees : Trees) →
        Stands (slot_of frames) old (j ∷ ids) (held id w None ∷ [])
        (world xs ys (branching x ∷ us) trees) →
        Stands (slot_of frames) new ids (held j x.who None ∷ []) (world xs ys us trees)
    -- a part in a later turn
    pub later : (frames : F → Frame × List Frame) (ids : List ℕ) (w : Who) (xs ys : List m.Task)
        (trees : Trees) → w.role ≡ part →
        Stands (slot_of frames) old ids (held id w None ∷ []) (world xs ys [] trees) →
        Joins (slot_of frames) old id w xs ys trees
    -- a spawned task as it began
    pub spawned : (frames : F → Frame × List Frame) (j : ℕ) (ids : List ℕ) (w : Who)
        (entry : Option ℕ) (x : Thread) (number : ℕ) (xs ys ps qs : List m.Task) (us : List Up)
        (trees : Trees) → w.role ≡ root entry →
        Stands (slot_of frames) old (j ∷ ids) (held id w None ∷ [])
        (world xs ys (spawning x number ps qs ∷ us) trees) →
        Stands (slot_of frames) new ids (held j x.who None ∷ []) (world ps qs us trees)
    -- Main, or a spawned task in a later turn
    pub alone : (frames : F → Frame × List Frame) (ids : List ℕ) (w : Who) (entry : Option ℕ)
        (xs ys : List m.Task) (trees : Trees) → w.role ≡ root entry →
        Stands (slot_of frames) old ids (held id w None ∷ []) (world xs ys [] trees) →
        Rests (slot_of frames) new (among (onto xs ys) trees)

  -- the clock's next wait is that of the definition: its task goes on in the same world
  pub record Woken (frames : F → Frame × List Frame) (new : List (Task (Slot F))) (id : ℕ)
      (h : Held F) (tss : List (List m.Task))
      (ps : List Pending) (s : State) (d : Due) (e : ClockDue) (u : State) : Type 0 where
    pub it : m.Task
    pub other : World
    pub it_frames : F
    pub number : ℕ
    pub kind : WaitKind
    pub was : h ≡ Asleep it_frames number kind
    pub own : number ≡ e.number
    pub frames_are : frames it_frames ≡ (it.thread.frame, it.thread.below)
    pub value : value_for s (cause_of kind) e.cause ≡ Some d.given.value
    pub goes_on : woken_in d.number d.given.value [] tss u ≡ resumes it.thread d.given.value other u
    pub stands : Stands (slot_of frames) new [] (held id it.thread.who None ∷ []) other

  abbrev pub Wakes : List (Task (Slot F)) → List (Task (Slot F)) → ℕ → Held F → Type 0
  Wakes old new id h =
      (frames : F → Frame × List Frame) (tss : List (List m.Task)) (ps : List Pending) (s : State)
      (d : Due) (e : ClockDue) (u : State) → e.task ≡ id → Rests (slot_of frames) old tss →
      Timed (sleeping (slot_of frames) old) ps s → NextIs s ps d e →
      Woken frames new id h tss ps s d e u

-- what the task would wait for has not come yet
abbrev pub IsUntold : State → WaitKind → Type 0
IsUntold s (At moment) = Unit {0}
IsUntold s Never = Unit {0}
IsUntold s (OnTask entry) = nth s.clock.results entry ≡ Some None
IsUntold s (Event cell) = Unit {0}

module _ {F W : Type 0} (pending : W → List Pending) where
  -- the clock has one wait more, of the next number
  abbrev pub FallsAsleep : List (Task (Slot F)) → List (Task (Slot F)) → Gone F W → Gone F W →
      (id n : ℕ) → WaitKind → Type 0
  FallsAsleep old new before behind id n kind =
      (frames : F → Frame × List Frame) (ids : List ℕ) (w : Who) (o : World) (s : State) →
      Stands (slot_of frames) old ids (held id w None ∷ []) o → n ≡ s.clock.next → IsUntold s kind →
      Timed (sleeping (slot_of frames) old) (pending before.waits) s →
      Timed (sleeping (slot_of frames) new) (pending behind.waits) (drawn s)
