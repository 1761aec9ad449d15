-- What a tree of tasks keeps of a suspended task.
use Rattle.std.specs.Prelude.{◌≡◌, ℕ, List, [], ◌∷◌}
use Rattle.task_tree.specs.Tasks.{Task}
use Rattle.verse_code_machine.specs.Tasks as m
use Rattle.vm_tasks_laws.specs.Slots.{Slot, by_itself, number_of}
use Rattle.run_save_shots.specs.Lists.{Each}

pub record IsKept (y : m.Task) (x : Slot) : Type 0 where
  pub number : x.number ≡ y.thread.who.number
  pub role : x.role ≡ y.thread.who.role
  pub held : x.held ≡ by_itself y.thread.frame y.thread.below y.rest

module _ {T : Type 0} (slot : T → Slot) where
  -- no two tasks have one number
  abbrev pub Unlike : List (Task T) → Type 0
  Unlike [] = Unit {0}
  Unlike (t ∷ ts) = Each (λ (u : Task T). number_of slot u ≡ number_of slot t → ⊥) ts × Unlike ts
