-- When the tasks of a tree stand for those of the machine's definition.
use Rattle.std.specs.Prelude.{◌≡◌, ℕ, List, [], ◌∷◌, ◌++◌, map, Some, None}
use Rattle.task_tree.specs.Tasks.{Task}
use Rattle.verse_code_machine.specs.Tasks as m
use Rattle.verse_code_machine.specs.Tasks.{Who, runs, After, resuming, closing, finishing, Up}
use Rattle.verse_code_machine.specs.Tasks.{begins, branching, spawning, clearing, World}
use Rattle.vm_tasks_laws.specs.Slots.{Slot, Entry, slept, held, who_of}
use Rattle.vm_tasks_laws.specs.Roses.{Rose, post, pre_all, GoodTrees}

-- those before in their order again, and what is behind them
abbrev pub onto_entries : List m.Task → List Entry → List Entry
onto_entries [] es = es
onto_entries (x ∷ xs) es = onto_entries xs (slept x ∷ es)

abbrev pub trees_entries : List (List m.Task) → List (List Entry)
trees_entries tss = map (map slept) tss

abbrev pub who_after : After → Who
who_after (resuming x v) = x.who
who_after (closing w v) = w
who_after (finishing w entry v) = w

-- those of the same tree that wait until another is suspended or over, by their numbers in the tree
abbrev pub ups_entries : List ℕ → List Up → List Entry
ups_entries ids [] = []
ups_entries [] (u ∷ us) = []
ups_entries (i ∷ ids) (begins x k p gs n ls ∷ us) =
    held i x.who (Some (gs ++ runs n ∷ [])) ∷ ups_entries ids us
ups_entries (i ∷ ids) (branching x ∷ us) = held i x.who None ∷ ups_entries ids us
ups_entries (i ∷ ids) (spawning x entry ps qs ∷ us) = []
ups_entries (i ∷ ids) (clearing a ts ∷ us) = held i (who_after a) None ∷ ups_entries ids us

-- the trees of those that spawn
abbrev pub ups_trees : List ℕ → List Up → List (List Entry)
ups_trees ids [] = []
ups_trees [] (u ∷ us) = []
ups_trees (i ∷ ids) (begins x k p gs n ls ∷ us) = ups_trees ids us
ups_trees (i ∷ ids) (branching x ∷ us) = ups_trees ids us
ups_trees (i ∷ ids) (spawning x entry ps qs ∷ us) =
    onto_entries ps (held i x.who None ∷ (ups_entries ids us ++ map slept qs)) ∷ ups_trees ids us
ups_trees (i ∷ ids) (clearing a ts ∷ us) = ups_trees ids us

-- the task that runs is the one that the nearest of these has begun
abbrev pub BegunBy : List Up → Who → Type 0
BegunBy [] w = Unit {0}
BegunBy (begins x k p gs n ls ∷ us) w = (w.up ≡ x.who.path) × (w.number ≡ n)
BegunBy (branching x ∷ us) w = w.up ≡ x.who.path
BegunBy (spawning x entry ps qs ∷ us) w = Unit {0}
BegunBy (clearing a ts ∷ us) w = Unit {0}

abbrev pub Chained : List Up → Type 0
Chained [] = Unit {0}
Chained (begins x k p gs n ls ∷ us) = BegunBy us x.who × Chained us
Chained (branching x ∷ us) = BegunBy us x.who × Chained us
Chained (spawning x entry ps qs ∷ us) = BegunBy us x.who × Chained us
Chained (clearing a ts ∷ us) = BegunBy us (who_after a) × Chained us

abbrev pub RunChained : List Entry → List Up → Type 0
RunChained [] us = Chained us
RunChained (e ∷ es) us = BegunBy us (who_of e) × Chained us

-- two lists of the same elements
pub data Deal {A : Type 0} : List A → List A → Type 0 where
  none_dealt : Deal [] []
  one_dealt : {x : A} {xs zs : List A} (front back : List A) → zs ≡ front ++ x ∷ back →
      Deal xs (front ++ back) → Deal (x ∷ xs) zs

module _ {T : Type 0} where
  -- these are the trees, and there may be empty ones among them
  pub data Shown : List (Rose T) → List (List Entry) → Type 0 where
    none_shown : Shown [] []
    empty_shown : {cs : List (Rose T)} {ess : List (List Entry)} → Shown cs ess →
        Shown cs ([] ∷ ess)
    tree_shown : {c : Rose T} {cs : List (Rose T)} {es : List Entry} {ess : List (List Entry)} →
        post c ≡ es → Shown cs ess → Shown (c ∷ cs) (es ∷ ess)

module _ {T : Type 0} (slot : T → Slot) where
  -- the tasks of a tree: one in which these stand, and others
  pub record Planted (tasks : List (Task T)) (others : List (Rose T)) (es : List Entry) :
      Type 0 where
    pub current : Rose T
    pub roots : List (Rose T)
    pub dealt : Deal (current ∷ others) roots
    pub tasks_are : tasks ≡ pre_all roots
    pub good : GoodTrees slot (current ∷ others)
    pub current_is : post current ≡ es

  -- the tasks of a tree, where the tasks `run` stand between those before and those behind in a
  -- world
  pub record Stands (tasks : List (Task T)) (ids : List ℕ) (run : List Entry) (o : World) :
      Type 0 where
    pub others : List (Rose T)
    pub planted : Planted tasks others
        (onto_entries o.pre (run ++ (ups_entries ids o.ups ++ map slept o.post)))
    pub chain : RunChained run o.ups
    pub others_are : Shown others (ups_trees ids o.ups ++
        (trees_entries o.trees.before ++ trees_entries o.trees.behind))

  -- between two turns
  pub record Rests (tasks : List (Task T)) (tss : List (List m.Task)) : Type 0 where
    pub trees : List (Rose T)
    pub roots : List (Rose T)
    pub dealt : Deal trees roots
    pub tasks_are : tasks ≡ pre_all roots
    pub good : GoodTrees slot trees
    pub trees_are : Shown trees (trees_entries tss)
