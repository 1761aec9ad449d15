-- What is told of a cancelled task, and of all that a task has begun since so many steps were left.
use Rattle.std.specs.Prelude.{◌≡◌, ◌≢◌, ◌⊎◌, ◌<◌, ◌≤◌, ℕ, ◌+◌, Bool, true, false, cond, List, []}
use Rattle.std.specs.Prelude.{◌∷◌, ◌++◌, length, Some, vec_capacity}
use Rattle.task_tree.specs.Tasks.{Task, task_at, youngest}
use Rattle.task_tree.specs.Removing.{Visited}
use Rattle.verse_code_machine.specs.Tasks.{Frame}
use Rattle.sim_clock.specs.declared.waits.Pending.{Pending}
use Rattle.sim_clock.specs.Pending.{removed}
use Rattle.vm_tasks_laws.specs.Cancelling.{CancelsSince}
use Rattle.vm_tasks.specs.declared.slots.Slot.{Slot}
use Rattle.vm_tasks.specs.declared.slots.Held.{Held}
use Rattle.vm_tasks.specs.declared.slots.Held.TheVariants.{ByMachine, Asleep, AtGroup}
use Rattle.vm_tasks.specs.declared.gone.Gone.{Gone}
use Rattle.vm_tasks.specs.View.{slot_of}

module _ {F : Type 0} where
  abbrev pub frames_in : Held F → List F
  frames_in ByMachine = []
  frames_in (Asleep f n kind) = f ∷ []
  frames_in (AtGroup f g) = f ∷ []

  abbrev pub without_wait : Held F → List Pending → List Pending
  without_wait ByMachine ps = ps
  without_wait (Asleep f n kind) ps = removed n ps
  without_wait (AtGroup f g) ps = ps

  -- the child that began last did so when fewer steps were left
  pub record IsYounger (ts : List (Task (Slot F))) (id bound child : ℕ) : Type 0 where
    pub task : Task (Slot F)
    pub youngest_is : youngest (Some id) ts ≡ Some child
    pub at_it : task_at child ts ≡ Some task
    pub less : task.item.number < bound

  abbrev pub NoYounger : List (Task (Slot F)) → ℕ → ℕ → Type 0
  NoYounger ts id bound = (c : ℕ) (u : Task (Slot F)) → youngest (Some id) ts ≡ Some c →
      task_at c ts ≡ Some u → bound ≤ u.item.number

-- an element of a list
pub data In {A : Type 0} (x : A) : List A → Type 0 where
  first_in : {xs : List A} → In x (x ∷ xs)
  later_in : {xs : List A} (y : A) → In x xs → In x (y ∷ xs)

module _ {F : Type 0} (has_blocks : F → Bool) where
  -- those that are kept
  abbrev pub kept_of : F → List F
  kept_of f = cond (has_blocks f) (f ∷ []) []

  abbrev pub kept_in : Held F → List F
  kept_in ByMachine = []
  kept_in (Asleep f n kind) = kept_of f
  kept_in (AtGroup f g) = kept_of f

  -- a task that is gone had frames with a deferred block
  pub record HadBlocks (old new : List (Task (Slot F))) : Type 0 where
    pub task : Task (Slot F)
    pub was : In task old
    pub is_gone : In task new → ⊥
    pub some : kept_in task.item.held ≢ []

  -- no cancelled task had a deferred block
  abbrev pub NoneDefers : List (Task (Slot F)) → List (Task (Slot F)) → Type 0
  NoneDefers old new = (t : Task (Slot F)) → In t old → (In t new → ⊥) → kept_in t.item.held ≡ []

module _ {F W : Type 0} where
  -- one more can be kept only where memory is had
  abbrev pub IsFull : Gone F W → Type 0
  IsFull g = vec_capacity g.frames ≤ length g.frames.items

  -- the frames of all these tasks can be kept, too
  abbrev pub HasRoom : List (Task (Slot F)) → Gone F W → Type 0
  HasRoom ts g = length g.frames.items + length ts ≤ vec_capacity g.frames

  -- those that are left were there, and the frames that are kept are of tasks that were there
  pub record KeepsEach (old new : List (Task (Slot F))) (before behind : Gone F W) : Type 0 where
    pub tasks : (t : Task (Slot F)) → In t new → In t old
    pub frames : behind.lost ≡ false → (f : F) → In f behind.frames.items →
        In f before.frames.items ⊎ ((t : Task (Slot F)) × In t old × In f (frames_in t.item.held))

module _ {F W : Type 0} (has_blocks : F → Bool) where
  -- Frames are lost only for want of memory: not where there is room for all, and not where no
  -- cancelled task had a deferred block. No memory is taken then.
  pub record LosesFew (old new : List (Task (Slot F))) (before behind : Gone F W) : Type 0 where
    pub with_room : HasRoom old before → (behind.lost ≡ before.lost) × HasRoom new behind
    pub cause : behind.lost ≡ true → (before.lost ≡ true) ⊎ HadBlocks has_blocks old new
    pub none : NoneDefers has_blocks old new → (behind.frames ≡ before.frames) ×
        (behind.lost ≡ before.lost)

  module _ (pending : W → List Pending) where
    -- the wait is gone, and frames with a deferred block stand behind those of tasks that were
    -- cancelled before, or some were lost
    pub record Leaves (old : Gone F W) (id : ℕ) (item : Slot F) (new : Gone F W) : Type 0 where
      pub waits : pending new.waits ≡ without_wait item.held (pending old.waits)
      pub kept : new.lost ≡ false → (old.lost ≡ false) ×
          (new.frames.items ≡ old.frames.items ++ kept_in has_blocks item.held)
      pub cause : new.lost ≡ true → (old.lost ≡ true) ⊎
          ((kept_in has_blocks item.held ≢ []) × IsFull old)
      pub none : kept_in has_blocks item.held ≡ [] → (new.frames ≡ old.frames) ×
          (new.lost ≡ old.lost)
      pub few : length new.frames.items ≤ length old.frames.items + 1
      pub room : vec_capacity old.frames ≤ vec_capacity new.frames

    pub record Cleared (id bound : ℕ) (old new : List (Task (Slot F))) (before behind : Gone F W) :
        Type 0 where
      pub gone : List (Task (Slot F))
      pub cancels : (frames : F → Frame × List Frame) →
          CancelsSince (slot_of frames) id bound old gone new
      pub told : Visited Leaves before gone behind
