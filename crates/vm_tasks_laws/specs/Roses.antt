-- Tasks that enclose tasks: each with what the machine's definition has for it, those beneath it,
-- and its later siblings.
use Rattle.std.specs.Prelude.{◌<◌, ℕ, List, [], ◌∷◌, ◌++◌}
use Rattle.task_tree.specs.Tasks.{Task}
use Rattle.vm_tasks_laws.specs.Slots.{Slot, Entry, Parent, no_parent, under, number_of, Seen}

pub data Rose (T : Type 0) : Type 0 where
  empty : Rose T
  node : Task T → Entry → (beneath rest : Rose T) → Rose T

module _ {T : Type 0} where
  -- each task before those that it encloses
  abbrev pub pre : Rose T → List (Task T)
  pre empty = []
  pre (node t e k r) = t ∷ pre k ++ pre r

  -- each behind them
  abbrev pub post : Rose T → List Entry
  post empty = []
  post (node t e k r) = post k ++ e ∷ post r

  -- one task that all others are beneath
  abbrev pub IsOne : Rose T → Type 0
  IsOne empty = ⊥
  IsOne (node t e k empty) = Unit {0}
  IsOne (node t e k (node u d l r)) = ⊥

  abbrev pub pre_all : List (Rose T) → List (Task T)
  pre_all [] = []
  pre_all (c ∷ cs) = pre c ++ pre_all cs

module _ {T : Type 0} (slot : T → Slot) where
  -- siblings began one after another: their numbers fall
  abbrev pub Good : Parent T → ℕ → Rose T → Type 0
  Good q most empty = Unit {0}
  Good q most (node t e k r) = Seen slot q t e × (number_of slot t < most) ×
      Good (under t e) (number_of slot t) k × Good q (number_of slot t) r

  pub record GoodTree (c : Rose T) : Type 0 where
    pub one : IsOne c
    pub most : ℕ
    pub good : Good no_parent most c

  abbrev pub GoodTrees : List (Rose T) → Type 0
  GoodTrees [] = Unit {0}
  GoodTrees (c ∷ cs) = GoodTree c × GoodTrees cs
