-- The numbers of the tasks that stand next to a task.
use Rattle.std.specs.Prelude.{◌≡◌, ℕ, eqb, Bool, false, List, [], ◌∷◌, ◌++◌, Option, Some, None}
use Rattle.std.specs.Prelude.{if◌then◌else◌, option_map, length}
use Rattle.slab.specs.Slab.{Slab, get, slab_len}
use Rattle.task_tree.specs.declared.nodes.Node.{Node}
use Rattle.task_tree.specs.declared.nodes.Links.{Links}
use Rattle.task_tree.specs.declared.nodes.Change.{Change}
use Rattle.task_tree.specs.declared.nodes.Change.TheVariants.{Youngest, Before, Behind, Past}
use Rattle.task_tree.specs.declared.nodes.Change.TheVariants.{Becomes}
use Rattle.task_tree.specs.Tasks.{Task, task_at, first, youngest}
use Rattle.task_tree.specs.Nested.{IsTree}

-- a link to the one that is gone leads past it
abbrev pub past : ℕ → Option ℕ → Option ℕ → Option ℕ
past gone next None = None
past gone next (Some n) = if eqb n gone then next else Some n

abbrev pub links_past : ℕ → Links → Links → Links
links_past gone its links = record {
  youngest = past gone its.older links.youngest;
  older = past gone its.older links.older;
  before = past gone its.before links.before;
  behind = past gone its.behind links.behind;
}

-- the link leads to this number
abbrev pub is_at : Option ℕ → ℕ → Bool
is_at None n = false
is_at (Some m) n = eqb m n

-- the last task without a parent, where one with this parent is added
abbrev pub youngest_with : Option ℕ → ℕ → Option ℕ → Option ℕ
youngest_with None n before = Some n
youngest_with (Some p) n before = before

module _ {T : Type 0} where
  -- what becomes of a node
  abbrev pub changed : Change → Node T → Node T
  changed (Youngest n) node = record node { links = record node.links { youngest = Some n } }
  changed (Before n) node = record node { links = record node.links { before = Some n } }
  changed (Behind n) node = record node { links = record node.links { behind = Some n } }
  changed (Past n its) node = record node { links = links_past n its node.links }
  changed (Becomes role) node = record node { role = role }

  -- the node at this key, where there is one, is changed
  pub record Changes (old new : Slab (Node T)) (key : Option ℕ) (change : Change) : Type 0 where
    pub nodes : (n : ℕ) → get new n ≡
        (if is_at key n then option_map (changed change) (get old n) else get old n)
    pub count : slab_len new ≡ slab_len old

  -- the number of the last task
  abbrev pub last : List (Task T) → Option ℕ
  last [] = None
  last (t ∷ []) = Some t.number
  last (t ∷ u ∷ ts) = last (u ∷ ts)

  -- the node of a task that stands between these
  abbrev pub node_at : List (Task T) → Task T → List (Task T) → Node T
  node_at front t back = record {
    parent = t.parent;
    role = t.role;
    item = t.item;
    links = record {
      youngest = youngest (Some t.number) back;
      older = youngest t.parent front;
      before = last front;
      behind = first back;
    };
  }

  -- the task that a node stands for
  abbrev pub task_of : ℕ → Node T → Task T
  task_of n node = record { number = n; parent = node.parent; role = node.role; item = node.item }

  -- each task has its node, and there are no others
  pub record Linked (nodes : Slab (Node T)) (ts : List (Task T)) : Type 0 where
    pub each : (front back : List (Task T)) (t : Task T) → ts ≡ front ++ t ∷ back →
        get nodes t.number ≡ Some (node_at front t back)
    pub others : (n : ℕ) → task_at n ts ≡ None → get nodes n ≡ None
    pub count : slab_len nodes ≡ length ts

  -- nodes, the first task and the last one without a parent are those of these tasks
  pub record Whole (nodes : Slab (Node T)) (head tail : Option ℕ) (ts : List (Task T)) :
      Type 0 where
    pub tree : IsTree ts
    pub linked : Linked nodes ts
    pub head_is : head ≡ first ts
    pub tail_is : tail ≡ youngest None ts
