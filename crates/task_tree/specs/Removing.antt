-- What is added, what is removed, and what a visitor is told.
use Rattle.std.specs.Prelude.{◌≡◌, ℕ, List, [], ◌∷◌, ◌++◌, Option, Some, None}
use Rattle.task_tree.specs.declared.tasks.Role.TheVariants.{Behind}
use Rattle.task_tree.specs.Tasks.{Task, task_at}
use Rattle.task_tree.specs.Nested.{Under}

module _ {T : Type 0} where
  -- it holds of all of these tasks
  abbrev pub Each : (Task T → Type 0) → List (Task T) → Type 0
  Each P [] = Unit {0}
  Each P (t ∷ ts) = P t × Each P ts

  -- what a task encloses stands right behind it, and nothing else does
  pub record StandsTogether (ts : List (Task T)) (n : ℕ) : Type 0 where
    pub front : List (Task T)
    pub task : Task T
    pub enclosed : List (Task T)
    pub back : List (Task T)
    pub is : ts ≡ front ++ (task ∷ enclosed ++ back)
    pub number : task.number ≡ n
    pub under : Each (λ t. Under ts n t.number) (task ∷ enclosed)
    pub not_before : Each (λ t. Under ts n t.number → ⊥) front
    pub not_behind : Each (λ t. Under ts n t.number → ⊥) back

  -- the old tasks of which this holds are gone, and the others are left, both in their order
  pub data Parts (P : Task T → Type 0) : List (Task T) → List (Task T) → List (Task T) →
      Type 0 where
    all_parted : Parts P [] [] []
    one_goes : {old gone left : List (Task T)} (t : Task T) → P t → Parts P old gone left →
        Parts P (t ∷ old) (t ∷ gone) left
    one_stays : {old gone left : List (Task T)} (t : Task T) → (P t → ⊥) → Parts P old gone left →
        Parts P (t ∷ old) gone (t ∷ left)

  -- the task with this number, and all that it encloses
  abbrev pub Cancels : ℕ → List (Task T) → List (Task T) → List (Task T) → Type 0
  Cancels n old = Parts (λ t. Under old n t.number) old

  -- a task in the background of this frame encloses the number
  pub record UnderBehind (ts : List (Task T)) (n depth : ℕ) (m : ℕ) : Type 0 where
    pub child : ℕ
    pub task : Task T
    pub is_there : task_at child ts ≡ Some task
    pub parent : task.parent ≡ Some n
    pub role : task.role ≡ Behind depth
    pub under : Under ts child m

  -- the tasks in the background of a frame, and all that these enclose
  abbrev pub CancelsBehind : ℕ → ℕ → List (Task T) → List (Task T) → List (Task T) → Type 0
  CancelsBehind n depth old = Parts (λ t. UnderBehind old n depth t.number) old

  -- the last of these tasks is this one, or one that it encloses
  pub record EndsUnder (ts : List (Task T)) (n : ℕ) (front : List (Task T)) : Type 0 where
    pub some : List (Task T)
    pub last : Task T
    pub is : front ≡ some ++ last ∷ []
    pub under : Under ts n last.number

  -- the parent and all that it encloses ends between these, or all tasks where there is no parent
  abbrev pub IsEnd : Option ℕ → List (Task T) → List (Task T) → List (Task T) → Type 0
  IsEnd None ts front back = back ≡ []
  IsEnd (Some p) ts front back = EndsUnder ts p front × Each (λ t. Under ts p t.number → ⊥) back

  -- the task stands behind all that its parent encloses
  pub record Added (task : Task T) (old new : List (Task T)) : Type 0 where
    pub front : List (Task T)
    pub back : List (Task T)
    pub was : old ≡ front ++ back
    pub is : new ≡ front ++ task ∷ back
    pub behind : IsEnd task.parent old front back

  -- what a visitor may be when it was told of these tasks, of the last one first
  abbrev pub Visited : {V : Type 0} → (V → ℕ → T → V → Type 0) → V → List (Task T) → V → Type 0
  Visited leaves old [] new = new ≡ old
  Visited {V} leaves old (t ∷ ts) new = (mid : V) × Visited leaves old ts mid ×
      leaves mid t.number t.item new
