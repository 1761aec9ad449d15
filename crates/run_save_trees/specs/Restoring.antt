-- Tasks that are kept are put into a tree one after another.
use Rattle.std.specs.Prelude.{◌≡◌, ◌<◌, ℕ, List, [], ◌∷◌, ◌++◌, length, get_or, Option, Some, None}
use Rattle.task_tree.specs.Tasks.{IsLive}
use Rattle.task_tree.specs.Nested.{IsTree}
use Rattle.sim_clock.specs.declared.waits.Wait.{Wait}
use Rattle.sim_clock.specs.declared.waits.WaitKind.{WaitKind}
use Rattle.sim_clock.specs.declared.waits.WaitKind.TheVariants as kind
use Rattle.verse_code.specs.declared.codes.Code.{Code}
use Rattle.verse_meaning_state.specs.Waits.{Cause, till, never, done, heard}
use Rattle.vm_frames.specs.Framed.{Framed}
use Rattle.vm_tasks.specs.declared.slots.Slot.{Slot}
use Rattle.vm_tasks.specs.Putting.{PutRoot, PutPart}
use Rattle.vm_scheduler.specs.Standing.{Tree}
use Rattle.run_save_shots.specs.Kept.{KeptRest, leaf, group, KeptTask, Kept}
use Rattle.run_save_numbers.specs.Numbers.{Numbers, numbers}
use Rattle.run_save_slots.specs.Slots.{IsMade}
use Rattle.run_save_trees.specs.declared.tables.Restored.{Restored}

abbrev pub kind_of : Cause → WaitKind
kind_of (till moment) = kind.At moment
kind_of never = kind.Never
kind_of (done entry) = kind.Task entry
kind_of (heard event) = kind.Event event

-- the wait of a task that waits so, by its number in the tree
abbrev pub waits_of : (id : ℕ) → KeptRest → List Wait
waits_of id (leaf number cause) =
    record { number = number; task = id; kind = kind_of cause } ∷ []
waits_of id (group arms) = []

-- the parent, if any, is live
abbrev pub HasParent : Option ℕ → (ids : List ℕ) → Tree → Type 0
HasParent None ids tree = Unit {0}
HasParent (Some p) ids tree = (p < length ids) × IsLive (get_or ids p 0) tree

-- behind all others, or in its parent, where these are the numbers of the tasks by their places
abbrev pub IsPut : Option ℕ → (ids : List ℕ) → (old new : Tree) → (id : ℕ) →
    Slot (List Framed) → Type 0
IsPut None ids old new id slot = PutRoot old new id slot
IsPut (Some p) ids old new id slot = PutPart old new (get_or ids p 0) id slot

-- one task more, with its numbers
pub record WithTask (c : Code) (t : KeptTask) (n : Numbers) (old new : Restored) : Type 0 where
  pub id : ℕ
  pub slot : Slot (List Framed)
  pub nested : IsTree old.tree
  pub made : IsMade c t n slot
  pub put : IsPut t.parent old.ids.items old.tree new.tree id slot
  pub ids : new.ids.items ≡ old.ids.items ++ id ∷ []
  pub waits : new.waits.items ≡ old.waits.items ++ waits_of id t.rest

pub record IsEmpty (r : Restored) : Type 0 where
  pub tree : r.tree ≡ []
  pub ids : r.ids.items ≡ []
  pub waits : r.waits.items ≡ []

-- these tasks, each with the numbers that it has among all
pub data AllPut (c : Code) (s : Kept) : List KeptTask → Restored → Restored → Type 0 where
  none_put : {r : Restored} → AllPut c s [] r r
  one_put : {t : KeptTask} {ts : List KeptTask} {old mid new : Restored} →
      WithTask c t (numbers s (length old.ids.items) t ts) old mid → AllPut c s ts mid new →
      AllPut c s (t ∷ ts) old new
