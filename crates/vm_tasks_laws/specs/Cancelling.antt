-- Which tasks are cancelled together, in the tree.
use Rattle.std.specs.Prelude.{◌≡◌, ◌<◌, ◌≤◌, ℕ, List, [], ◌∷◌, ◌++◌, Some, cond}
use Rattle.task_tree.specs.Tasks.{Task, task_at, youngest}
use Rattle.task_tree.specs.Nested.{IsTree}
use Rattle.task_tree.specs.Removing.{Cancels}
use Rattle.verse_meaning_state.specs.Waits.{ltn}
use Rattle.vm_tasks_laws.specs.Slots.{Slot, Entry, number_of}
use Rattle.vm_tasks_laws.specs.Roses.{Rose, empty, node}

module _ {T : Type 0} (slot : T → Slot) where
  -- the children of a task with numbers below a bound go, the youngest first, each with all that it
  -- encloses
  pub data CancelsSince (id bound : ℕ) : List (Task T) → List (Task T) → List (Task T) →
      Type 0 where
    none_younger : {ts : List (Task T)} → IsTree ts →
        ((c : ℕ) (u : Task T) → youngest (Some id) ts ≡ Some c → task_at c ts ≡ Some u →
        bound ≤ number_of slot u) → CancelsSince id bound ts [] ts
    one_younger : {ts all left : List (Task T)} (c : ℕ) (u : Task T)
        (gone mid later : List (Task T)) → IsTree ts → youngest (Some id) ts ≡ Some c →
        task_at c ts ≡ Some u → number_of slot u < bound → Cancels c ts gone mid →
        CancelsSince id bound mid later left → all ≡ later ++ gone →
        CancelsSince id bound ts all left

  -- siblings from the first that began with a number below the bound, and those before it
  abbrev pub younger : ℕ → Rose T → Rose T
  younger bound empty = empty
  younger bound (node t e k r) = cond (ltn (number_of slot t) bound) (node t e k r) (younger bound r)

  abbrev pub older : ℕ → Rose T → Rose T
  older bound empty = empty
  older bound (node t e k r) = cond (ltn (number_of slot t) bound) empty
      (node t e k (older bound r))

module _ {T : Type 0} where
  -- in the order in which they are cancelled: later siblings before earlier, and each task behind
  -- those that it encloses
  abbrev pub back_entries : Rose T → List Entry
  back_entries empty = []
  back_entries (node t e k r) = back_entries r ++ (back_entries k ++ e ∷ [])
