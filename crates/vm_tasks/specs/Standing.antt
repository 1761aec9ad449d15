-- What each change of the tree is in the machine's definition, for every world that the tree stands
-- for.
use Rattle.std.specs.Prelude.{◌≡◌, ◌<◌, ◌≤◌, ℕ, Bool, false, List, [], ◌∷◌, ◌++◌, map, Option, Some}
use Rattle.std.specs.Prelude.{None}
use Rattle.task_tree.specs.Tasks.{Task, task_at}
use Rattle.verse_base.specs.declared.places.Place.{Place}
use Rattle.verse_meaning_state.specs.State.{State}
use Rattle.verse_meaning_state.specs.Turns as turns
use Rattle.verse_code_machine.specs.Tasks as m
use Rattle.verse_code_machine.specs.Tasks.{Frame, Who, Part, Rest, Thread, thread, begins}
use Rattle.verse_code_machine.specs.Tasks.{branching, spawning, World, world, child_named}
use Rattle.verse_code_machine.specs.Tasks.{root_named, since, beneath_arms}
use Rattle.verse_code_machine.specs.Cancelling.{world_without, cancelled}
use Rattle.sim_clock.specs.declared.waits.Pending.{Pending}
use Rattle.vm_tasks_laws.specs.Slots.{by_itself, Entry, held, arms_at, ArmedBy}
use Rattle.vm_tasks_laws.specs.Standing.{Stands}
use Rattle.vm_tasks_laws.specs.Clocks.{sleeping, Timed}
use Rattle.vm_tasks.specs.declared.slots.Slot.{Slot}
use Rattle.vm_tasks.specs.declared.slots.Held.{Held}
use Rattle.vm_tasks.specs.declared.gone.Gone.{Gone}
use Rattle.vm_tasks.specs.View.{held_of, slot_of}
use Rattle.vm_tasks.specs.Deferring.{deferring, Agrees}

module _ {F : Type 0} where
  -- each began when more steps were left
  abbrev pub AllEarlier : ℕ → List (Task (Slot F)) → Type 0
  AllEarlier n [] = Unit {0}
  AllEarlier n (t ∷ ts) = (n < t.item.number) × AllEarlier n ts

  abbrev pub NoneLater : ℕ → List (Task (Slot F)) → Type 0
  NoneLater n [] = Unit {0}
  NoneLater n (t ∷ ts) = (n ≤ t.item.number) × NoneLater n ts

  -- the task i begins a task behind
  abbrev pub Branches : List (Task (Slot F)) → List (Task (Slot F)) → (i id n : ℕ) → Type 0
  Branches old new i id n =
      (frames : F → Frame × List Frame) (ids : List ℕ) (x : Thread) (o : World) → AllEarlier n old →
      Stands (slot_of frames) old ids (held i x.who None ∷ []) o →
      Stands (slot_of frames) new (i ∷ ids) (held id (child_named x.who n) None ∷ [])
      (world o.pre o.post (branching x ∷ o.ups) o.trees)

  -- the task i begins the next arm of its group, which began when more steps were left
  abbrev pub BeginsArm : List (Task (Slot F)) → List (Task (Slot F)) → (i id n : ℕ) → Type 0
  BeginsArm old new i id n =
      (frames : F → Frame × List Frame) (ids : List ℕ) (x : Thread) (k : turns.Kind) (p : Place)
      (gs : List Part) (ls : List ℕ) (o : World) → AllEarlier n old →
      ((t : Task (Slot F)) → task_at i old ≡ Some t → n < t.item.since) →
      Stands (slot_of frames) old ids (held i x.who (Some gs) ∷ []) o →
      Stands (slot_of frames) new (i ∷ ids) (held id (child_named x.who n) None ∷ [])
      (world o.pre o.post (begins x k p gs n ls ∷ o.ups) o.trees)

  -- the task i spawns a task of an entry
  abbrev pub Spawns : List (Task (Slot F)) → List (Task (Slot F)) → (id n entry : ℕ) → Type 0
  Spawns old new id n entry =
      (frames : F → Frame × List Frame) (ids : List ℕ) (i : ℕ) (x : Thread) (o : World) →
      Stands (slot_of frames) old ids (held i x.who None ∷ []) o →
      Stands (slot_of frames) new (i ∷ ids) (held id (root_named n (Some entry)) None ∷ [])
      (world [] [] (spawning x entry o.pre o.post ∷ o.ups) o.trees)

  -- the running task stands among the others
  abbrev pub SetsDown : List (Task (Slot F)) → List (Task (Slot F)) → ℕ → Held F → Type 0
  SetsDown old new i h =
      (frames : F → Frame × List Frame) (ids : List ℕ) (w : Who) (arms : Option (List Part))
      (o : World) (f : Frame) (bl : List Frame) (r : Rest) → held_of frames h ≡ by_itself f bl r →
      ((n b : ℕ) → ArmedBy b arms n → ArmedBy b (arms_at r) n) →
      Stands (slot_of frames) old ids (held i w arms ∷ []) o →
      Stands (slot_of frames) new ids []
      (world (record { thread = thread w f bl; rest = r } ∷ o.pre) o.post o.ups o.trees)

  -- it begins a group; what it has begun before are no arms
  abbrev pub BeginsGroup : List (Task (Slot F)) → List (Task (Slot F)) → (i left : ℕ) → Type 0
  BeginsGroup old new i left =
      (frames : F → Frame × List Frame) (ids : List ℕ) (w : Who) (o : World) → NoneLater left old →
      Stands (slot_of frames) old ids (held i w None ∷ []) o →
      Stands (slot_of frames) new ids (held i w (Some []) ∷ []) o

module _ {F W : Type 0} (has_blocks : F → Bool) (pending : W → List Pending) where
  -- the definition cancels tasks of such names: the tree stands for what is left, the clock has its
  -- waits, and the frames are those of the cancelled tasks that have deferred blocks, in the order
  -- in which they are cancelled
  pub record CancelsAs (frames : F → Frame × List Frame) (old new : List (Task (Slot F)))
      (before behind : Gone F W) (ids : List ℕ)
      (e : Entry) (o : World) (f : List ℕ → Bool) : Type 0 where
    pub stands : Stands (slot_of frames) new ids (e ∷ []) (world_without f o)
    pub timed : (s : State) → Timed (sleeping (slot_of frames) old) (pending before.waits) s →
        Timed (sleeping (slot_of frames) new) (pending behind.waits) s
    pub kept : behind.lost ≡ false → (more : List F) ×
        (behind.frames.items ≡ before.frames.items ++ more) ×
        (map frames more ≡ map (λ (y : m.Task). (y.thread.frame, y.thread.below))
        (deferring (cancelled f o)))

  -- what the task has begun since so many steps were left
  abbrev pub CancelsScope : (i bound : ℕ) → List (Task (Slot F)) → List (Task (Slot F)) → Gone F W →
      Gone F W → Type 0
  CancelsScope i bound old new before behind =
      (frames : F → Frame × List Frame) (ids : List ℕ) (w : Who) (arms : Option (List Part))
      (o : World) → Agrees has_blocks frames →
      Stands (slot_of frames) old ids (held i w arms ∷ []) o →
      CancelsAs frames old new before behind ids (held i w arms) o (since w.path bound)

  -- the arms of its group, which began when so many steps were left
  abbrev pub CancelsArms : (i bound : ℕ) → List (Task (Slot F)) → List (Task (Slot F)) → Gone F W →
      Gone F W → Type 0
  CancelsArms i bound old new before behind =
      (frames : F → Frame × List Frame) (ids : List ℕ) (w : Who) (gs : List Part) (o : World) →
      Agrees has_blocks frames → ((t : Task (Slot F)) → task_at i old ≡ Some t →
      t.item.since ≡ bound) → Stands (slot_of frames) old ids (held i w (Some gs) ∷ []) o →
      CancelsAs frames old new before behind ids (held i w (Some gs)) o (beneath_arms w.path gs)
