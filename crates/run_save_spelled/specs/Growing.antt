-- How trees of tasks grow, one task after another.
use Rattle.std.specs.Prelude.{◌≡◌, ◌<◌, ℕ, List, [], ◌∷◌, ◌++◌, map, Option}
use Rattle.verse_code_machine.specs.Tasks.{Task, root_named, child_named}
use Rattle.verse_code_machine.specs.Runs.{Forest}
use Rattle.run_save_shots.specs.Lists.{Each}
use Rattle.run_save_shots.specs.Spelling.{before_parent}

abbrev pub number_of : Task → ℕ
number_of y = y.thread.who.number

abbrev pub path_of : Task → List ℕ
path_of y = y.thread.who.path

-- the tasks of all trees
abbrev pub flat : Forest → List Task
flat [] = []
flat (ts ∷ tss) = ts ++ flat tss

pub data In {A : Type 0} (x : A) : List A → Type 0 where
  first_in : {xs : List A} → In x (x ∷ xs)
  later_in : {xs : List A} (y : A) → In x xs → In x (y ∷ xs)

-- the task is one of its own, or a part of one of these
pub data Begins (before : List Task) (y : Task) : Type 0 where
  begins_root : (entry : Option ℕ) → y.thread.who ≡ root_named (number_of y) entry → Begins before y
  begins_part : (x : Task) → In x before →
      y.thread.who ≡ child_named x.thread.who (number_of y) → Begins before y

-- each begins behind those before, of which the last is the first of the list, and has a lower
-- number
abbrev pub Sprouts : (before : List Task) → List Task → Type 0
Sprouts before [] = Unit {0}
Sprouts before (y ∷ ys) =
    Begins before y × Each (λ z. number_of y < number_of z) before × Sprouts (y ∷ before) ys

-- the part stands right before the task in which it is
pub record Inserted (x y : Task) (old : Forest) : Type 0 where
  pub front : Forest
  pub before : List Task
  pub behind : List Task
  pub back : Forest
  pub was : old ≡ front ++ (before ++ x ∷ behind) ∷ back
  pub is : map (before_parent y) old ≡ front ++ (before ++ y ∷ x ∷ behind) ∷ back
