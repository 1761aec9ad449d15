-- Where a task stands with all that it encloses.
use Rattle.std.specs.Prelude.{◌≡◌, ℕ, eqb, if◌then◌else◌, length, true, List, [], ◌∷◌, ◌++◌, Option}
use Rattle.std.specs.Prelude.{Some, None}
use Rattle.task_tree.specs.Tasks.{Task, task_at, youngest, suits}
use Rattle.task_tree.specs.Nested.{Forest, IsTree}
use Rattle.task_tree.specs.Links.{last}
use Rattle.task_tree.specs.Removing.{IsEnd}

module _ {T : Type 0} where
  -- the task with this number, and what stands before it, beneath it and behind that; in the place
  -- of the task and what is beneath it other tasks with its parent may stand
  pub record Block (top : Option ℕ) (ts : List (Task T)) (n : ℕ) : Type 0 where
    pub front : List (Task T)
    pub task : Task T
    pub kids : List (Task T)
    pub back : List (Task T)
    pub was : ts ≡ front ++ (task ∷ kids ++ back)
    pub number : task.number ≡ n
    pub suited : suits task.parent task.role ≡ true
    pub beneath : Forest (Some task.number) kids
    pub around : (others : List (Task T)) → Forest task.parent others →
        Forest top (front ++ (others ++ back))

  -- on the way down from the first task to the last one of its block: the second one's block ends
  -- there too
  pub record Down (ts : List (Task T)) (start at : ℕ) : Type 0 where
    pub tree : IsTree ts
    pub block : Block None ts start
    pub inner : Block None ts at
    pub same : block.front ++ block.task ∷ block.kids ≡ inner.front ++ inner.task ∷ inner.kids

  -- how many tasks stand behind this one
  abbrev pub count_behind : ℕ → List (Task T) → ℕ
  count_behind n [] = 0
  count_behind n (t ∷ ts) = if eqb t.number n then length ts else count_behind n ts

  -- the last task of this block
  pub record EndsBelow (ts : List (Task T)) (n end : ℕ) : Type 0 where
    pub block : Block None ts n
    pub ends : last (block.front ++ block.task ∷ block.kids) ≡ Some end

  -- behind this task a child may be added: there the parent and all that it encloses ends
  pub record EndsAt (ts : List (Task T)) (parent end : Option ℕ) : Type 0 where
    pub front : List (Task T)
    pub back : List (Task T)
    pub was : ts ≡ front ++ back
    pub ends : end ≡ last front
    pub none : youngest parent back ≡ None
    pub above : (n : ℕ) → parent ≡ Some n → task_at n back ≡ None
    pub grows : (t : Task T) → t.parent ≡ parent → suits t.parent t.role ≡ true →
        Forest None (front ++ t ∷ back)
    pub behind : IsEnd parent ts front back
