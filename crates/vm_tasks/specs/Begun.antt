-- A task that is added to the tree, and one whose frames come or go.
use Rattle.std.specs.Prelude.{◌≡◌, ℕ, List, Option, Some, None}
use Rattle.task_tree.specs.declared.tasks.Role.{Role}
use Rattle.task_tree.specs.declared.tasks.Role.TheVariants as role
use Rattle.task_tree.specs.Tasks.{Task, task_at, with_item}
use Rattle.task_tree.specs.Removing.{Added}
use Rattle.vm_tasks.specs.declared.slots.Slot.{Slot}
use Rattle.vm_tasks.specs.declared.slots.Root.{Root}
use Rattle.vm_tasks.specs.declared.slots.Held.{Held}
use Rattle.vm_tasks.specs.declared.slots.Held.TheVariants.{ByMachine}

-- an arm, and a task behind, has this role in the tree; which of both it is the machine does not
-- ask there
abbrev pub role_under : Option ℕ → Role
role_under None = role.Root
role_under (Some p) = role.Behind 0

module _ {F : Type 0} where
  abbrev pub new_slot : ℕ → Root → Slot F
  new_slot n root = record { number = n; since = n; root = root; held = ByMachine }

  -- a task that the machine runs stands behind its siblings
  pub record Begun (old new : List (Task (Slot F))) (parent : Option ℕ) (id n : ℕ) (root : Root) :
      Type 0 where
    pub fresh : task_at id old ≡ None
    pub added : Added (record {
      number = id;
      parent = parent;
      role = role_under parent;
      item =
          new_slot n root;
    }) old new

  -- with the frames elsewhere
  pub record Reheld (old new : List (Task (Slot F))) (id : ℕ) (h : Held F) : Type 0 where
    pub task : Task (Slot F)
    pub at_it : task_at id old ≡ Some task
    pub is : new ≡ with_item id old (record task.item { held = h })

  -- its group begins when so many steps are left
  pub record Grouped (old new : List (Task (Slot F))) (id left : ℕ) : Type 0 where
    pub task : Task (Slot F)
    pub at_it : task_at id old ≡ Some task
    pub is : new ≡ with_item id old (record task.item { since = left })
