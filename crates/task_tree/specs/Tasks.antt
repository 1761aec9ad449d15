-- Tasks in the order in which they are written down: each before the tasks that it encloses, and
-- siblings as they were added.
use Rattle.std.specs.Prelude.{◌≡◌, ℕ, eqb, Bool, true, false, List, [], ◌∷◌, Option, Some, None}
use Rattle.std.specs.Prelude.{IsSome, if◌then◌else◌, option_map}
use Rattle.task_tree.specs.declared.tasks.Role.{Role}
use Rattle.task_tree.specs.declared.tasks.Role.TheVariants.{Root, Arm, Behind}
use Rattle.task_tree.specs.declared.tasks.Finished.{Finished}
use Rattle.task_tree.specs.declared.tasks.Finished.TheVariants.{Alone, Child}

pub record Task (T : Type 0) : Type 0 where
  pub number : ℕ
  pub parent : Option ℕ
  pub role : Role
  pub item : T

abbrev pub is_child : Option ℕ → Option ℕ → Bool
is_child None None = true
is_child (Some p) (Some q) = eqb p q
is_child _ _ = false

abbrev pub or_else : Option ℕ → Option ℕ → Option ℕ
or_else (Some n) other = Some n
or_else None other = other

-- a task without a parent is a root, and another one is an arm or in the background
abbrev pub suits : Option ℕ → Role → Bool
suits None Root = true
suits (Some p) (Arm place) = true
suits (Some p) (Behind depth) = true
suits _ _ = false

abbrev pub is_arm : Role → Bool
is_arm (Arm place) = true
is_arm _ = false

abbrev pub is_behind : ℕ → Role → Bool
is_behind depth (Behind d) = eqb d depth
is_behind depth _ = false

module _ {T : Type 0} where
  -- the task with this number
  abbrev pub task_at : ℕ → List (Task T) → Option (Task T)
  task_at n [] = None
  task_at n (t ∷ ts) = if eqb t.number n then Some t else task_at n ts

  abbrev pub IsLive : ℕ → List (Task T) → Type 0
  IsLive n ts = IsSome (task_at n ts)

  abbrev pub parent_at : ℕ → List (Task T) → Option ℕ
  parent_at n ts = elim (task_at n ts) [ None ↦ None | Some t ↦ t.parent ]

  -- the number of the first task
  abbrev pub first : List (Task T) → Option ℕ
  first [] = None
  first (t ∷ ts) = Some t.number

  -- the number of the task behind that with this number
  abbrev pub after : ℕ → List (Task T) → Option ℕ
  after n [] = None
  after n (t ∷ ts) = if eqb t.number n then first ts else after n ts

  -- the number of the last task with this parent, or of the last one with none
  abbrev pub youngest : Option ℕ → List (Task T) → Option ℕ
  youngest p [] = None
  youngest p (t ∷ ts) = or_else (youngest p ts)
      (if is_child p t.parent then Some t.number else None)

  abbrev pub HasNoChild : ℕ → List (Task T) → Type 0
  HasNoChild n ts = youngest (Some n) ts ≡ None

  -- all tasks but the one with this number
  abbrev pub without : ℕ → List (Task T) → List (Task T)
  without n [] = []
  without n (t ∷ ts) = if eqb t.number n then ts else t ∷ without n ts

  -- the task with this number changed
  abbrev pub changed_at : ℕ → (Task T → Task T) → List (Task T) → List (Task T)
  changed_at n change [] = []
  changed_at n change (t ∷ ts) =
      if eqb t.number n then change t ∷ ts else t ∷ changed_at n change ts

  abbrev pub with_role : ℕ → Role → List (Task T) → List (Task T)
  with_role n role = changed_at n (λ t. record t { role = role })

  abbrev pub with_item : ℕ → List (Task T) → T → List (Task T)
  with_item n ts item = changed_at n (λ t. record t { item = item }) ts

  abbrev pub IsArm : ℕ → List (Task T) → Type 0
  IsArm n ts = option_map (λ (t : Task T). is_arm t.role) (task_at n ts) ≡ Some true

  -- no parent, or a live one
  abbrev pub IsPossible : Option ℕ → List (Task T) → Type 0
  IsPossible None ts = Unit {0}
  IsPossible (Some p) ts = IsLive p ts

  abbrev pub finished : Task T → Finished T
  finished t = elim t.parent [ None ↦ Alone t.item | Some p ↦ Child p t.role t.item ]
