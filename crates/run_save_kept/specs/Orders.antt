-- How the tasks of a run stand to one another between two turns.
use Rattle.std.specs.Prelude.{◌≡◌, ◌⊎◌, ℕ, suc, ◌+◌, ◌≤◌, ◌<◌, cond, List, [], ◌∷◌, ◌++◌}
use Rattle.verse_meaning_state.specs.Waits.{eqn, ltn}
use Rattle.verse_code_machine.specs.Tasks.{Who, Part, did, runs, Rest, asleep, group, Task}
use Rattle.verse_code_machine.specs.Tasks.{same_path}
use Rattle.verse_code_machine.specs.Ends.{is_run}
use Rattle.verse_code_machine.specs.Runs.{Forest}
use Rattle.verse_code_machine_parents.specs.Parents.{whos}
use Rattle.run_save_shots.specs.Lists.{Each}
use Rattle.run_save_fits.specs.Held.{IsSome, WhoIs, tasks_sum, trees_sum, one}

-- A task stands before those that enclose it. Where two paths part, the one that began earlier, and
-- so has the greater number, stands before the other.
abbrev pub Before : List ℕ → List ℕ → Type 0
Before [] q = ⊥
Before (i ∷ p) [] = Unit {0}
Before (i ∷ p) (j ∷ q) = (j < i) ⊎ ((i ≡ j) × Before p q)

-- the number of the root
abbrev pub first : List ℕ → ℕ
first [] = 0
first (n ∷ ns) = n

-- so in one tree
abbrev pub StandsBefore : List ℕ → List ℕ → Type 0
StandsBefore p q = Before p q × (first p ≡ first q)

-- none of the numbers is below the bound
abbrev pub NoneBelow : ℕ → List ℕ → Type 0
NoneBelow left [] = Unit {0}
NoneBelow left (n ∷ ns) = (left ≤ n) × NoneBelow left ns

-- a task's name, where no task began with fewer steps than are left
pub record Sits (left : ℕ) (w : Who) : Type 0 where
  pub named : WhoIs w
  pub above : NoneBelow left w.path

-- the tasks of a tree stand so, beneath one root
abbrev pub Lined : ℕ → List Who → Type 0
Lined left [] = Unit {0}
Lined left (w ∷ ws) =
    Sits left w × Each (λ (v : Who). StandsBefore w.path v.path) ws × Lined left ws

-- the last number of a path
abbrev pub last : List ℕ → ℕ
last [] = 0
last (n ∷ []) = n
last (n ∷ m ∷ ns) = last (m ∷ ns)

-- 1 of the task of this path
abbrev pub is_named : List ℕ → Task → ℕ
is_named p t = one (same_path p t.thread.who.path)

-- how many of the arms run as the task of the number
abbrev pub runs_in : ℕ → List Part → ℕ
runs_in n [] = 0
runs_in n (did v ∷ gs) = runs_in n gs
runs_in n (runs m ∷ gs) = one (eqn n m) + runs_in n gs

-- of the group of the task of a path
abbrev pub arms_of : (path : List ℕ) (number : ℕ) → List ℕ → List Part → ℕ
arms_of a n path gs = cond (same_path a path) (runs_in n gs) 0

abbrev pub in_group : (List ℕ → List Part → ℕ) → List ℕ → Rest → ℕ
in_group b path (asleep w) = 0
in_group b path (group k p gs) = b path gs

abbrev pub awaits : List ℕ → ℕ → Task → ℕ
awaits a n t = in_group (arms_of a n) t.thread.who.path t.rest

-- 1 of the group of the task of a path, where the task of the number m is an arm of it and that of
-- the number n is not
abbrev pub skips : (path : List ℕ) (n m : ℕ) → List ℕ → List Part → ℕ
skips a n m path gs = cond (same_path a path) (cond (is_run m gs) (cond (is_run n gs) 0 1) 0) 0

abbrev pub weight : (List ℕ → ℕ) → (List ℕ → List Part → ℕ) → Task → ℕ
weight h b t = in_group b t.thread.who.path t.rest + h t.thread.who.path

-- between two turns with so many steps left
pub record Orderly (left : ℕ) (tss : Forest) : Type 0 where
  pub lines : Each (λ ts. Lined left (whos ts)) tss
  -- no two tasks have one path, and none has one that is to come
  pub names : (p : List ℕ) → trees_sum (is_named p) tss ≤ one (ltn left (suc (last p)))
  -- each arm that runs is a task of the tree
  pub arms : (a : List ℕ) → IsSome a → (n : ℕ) →
      Each (λ ts. tasks_sum (awaits a n) ts ≤ tasks_sum (is_named (a ++ n ∷ [])) ts) tss
  -- at a group each child that began no earlier than one of the arms is an arm
  pub younger : (a : List ℕ) → IsSome a → (n m : ℕ) → n ≤ m →
      trees_sum (weight (λ path. one (same_path (a ++ n ∷ []) path)) (skips a n m)) tss ≤ 1
