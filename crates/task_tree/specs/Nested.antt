-- How tasks enclose tasks.
use Rattle.std.specs.Prelude.{◌≡◌, ℕ, true, List, [], ◌∷◌, ◌++◌, Option, Some, None}
use Rattle.task_tree.specs.Tasks.{Task, task_at, suits}

module _ {T : Type 0} where
  -- the tasks with this parent, each followed by all that it encloses
  pub data Forest : Option ℕ → List (Task T) → Type 0 where
    no_tasks : {parent : Option ℕ} → Forest parent []
    a_task : {parent : Option ℕ} {ts : List (Task T)} (t : Task T) (kids rest : List (Task T)) →
        ts ≡ t ∷ kids ++ rest → t.parent ≡ parent → suits parent t.role ≡ true →
        Forest (Some t.number) kids → Forest parent rest → Forest parent ts

  -- no number stands twice
  abbrev pub Distinct : List (Task T) → Type 0
  Distinct [] = Unit {0}
  Distinct (t ∷ ts) = (task_at t.number ts ≡ None) × Distinct ts

  -- the tasks of a tree
  pub record IsTree (ts : List (Task T)) : Type 0 where
    pub forest : Forest None ts
    pub distinct : Distinct ts

  -- a chain of parents leads from the second number to the first
  pub data Under (ts : List (Task T)) (top : ℕ) : ℕ → Type 0 where
    itself : Under ts top top
    beneath : (n p : ℕ) (t : Task T) → task_at n ts ≡ Some t → t.parent ≡ Some p → Under ts top p →
        Under ts top n
