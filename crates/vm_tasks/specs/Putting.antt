-- A task that is put into the tree as it stood, without beginning.
use Rattle.std.specs.Prelude.{◌≡◌, ℕ, List, [], ◌∷◌, ◌++◌, Option, Some, None}
use Rattle.task_tree.specs.Tasks.{Task, task_at}
use Rattle.task_tree.specs.Removing.{Added}
use Rattle.vm_tasks.specs.declared.slots.Slot.{Slot}
use Rattle.vm_tasks.specs.Begun.{role_under}

module _ {F : Type 0} where
  abbrev pub put_task : Option ℕ → ℕ → Slot F → Task (Slot F)
  put_task parent id slot = record {
    number = id;
    parent = parent;
    role = role_under parent;
    item =
        slot;
  }

  -- a task of its own stands behind all others
  pub record PutRoot (old new : List (Task (Slot F))) (id : ℕ) (slot : Slot F) : Type 0 where
    pub fresh : task_at id old ≡ None
    pub is : new ≡ old ++ put_task None id slot ∷ []

  -- a part stands behind all that its parent encloses
  pub record PutPart (old new : List (Task (Slot F))) (parent id : ℕ) (slot : Slot F) : Type 0 where
    pub fresh : task_at id old ≡ None
    pub added : Added (put_task (Some parent) id slot) old new
