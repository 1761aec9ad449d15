-- Lists of tasks beside those that the definition has for them.
use Rattle.std.specs.Prelude.{List, [], ◌∷◌, ◌++◌}
use Rattle.task_tree.specs.Tasks.{Task}
use Rattle.verse_code_machine.specs.Tasks as m
use Rattle.vm_tasks_laws.specs.Slots.{Slot, slept, Shows}

abbrev pub AllPairs : {A B : Type 0} → (A → B → Type 0) → List A → List B → Type 0
AllPairs P [] [] = Unit {0}
AllPairs P [] (y ∷ ys) = ⊥
AllPairs P (x ∷ xs) [] = ⊥
AllPairs P (x ∷ xs) (y ∷ ys) = P x y × AllPairs P xs ys

-- the last first
abbrev pub backwards : {A : Type 0} → List A → List A
backwards [] = []
backwards (x ∷ xs) = backwards xs ++ x ∷ []

module _ {T : Type 0} (slot : T → Slot) where
  -- the task's frames and what it waits for
  abbrev pub IsTold : Task T → m.Task → Type 0
  IsTold t y = Shows t.number (slot t.item).held (slept y)
