-- The tasks that a tree of nodes stands for.
use Rattle.std.specs.Prelude.{ℕ, zero, suc, List, [], ◌∷◌, Option, Some, None}
use Rattle.slab.specs.Slab.{Slab, get, slab_len}
use Rattle.task_tree.specs.declared.nodes.Node.{Node}
use Rattle.task_tree.specs.declared.tree.TaskTree.TheInside.{Inside}
use Rattle.task_tree.specs.Tasks.{Task}
use Rattle.task_tree.specs.Links.{task_of, Whole}

module _ {T : Type 0} where
  -- at most so many tasks, from this one on
  abbrev pub walk : ℕ → Slab (Node T) → Option ℕ → List (Task T)
  walk zero nodes at = []
  walk (suc n) nodes at = elim at [
    | None ↦ []
    | Some k ↦ elim (get nodes k) [
      | None ↦ []
      | Some node ↦
          task_of k node ∷ walk n nodes node.links.behind
    ]
  ]

  abbrev pub tasks_of : Inside T → List (Task T)
  tasks_of t = walk (slab_len t.nodes) t.nodes t.first

  abbrev pub IsWhole : Inside T → Type 0
  IsWhole t = Whole t.nodes t.first t.youngest (tasks_of t)
