-- What is kept of the tasks of a tree is what is kept of the trees of tasks that it stands for.
use Rattle.std.specs.Prelude.{◌≡◌, List}
use Rattle.task_tree.specs.Tasks as tree
use Rattle.task_tree.specs.Nested.{IsTree}
use Rattle.verse_code_machine.specs.Runs.{Forest}
use Rattle.vm_tasks_laws.specs.Slots.{Slot}
use Rattle.vm_tasks_laws.specs.Standing.{Rests}
use Rattle.run_save_shots.specs.Lists.{Reordered}
use Rattle.run_save_shots.specs.Keeping.{walk, tasks}
use Rattle.run_save_apart.specs.Numbers.{NumbersApart}
use Rattle.vm_shot_laws.specs.Tree.{kept_tasks}

module _ {T : Type 0} (slot : T → Slot) where
  -- the trees in some order give the tasks in the order of the tree
  pub record Walks (all : List (tree.Task T)) (tss : Forest) : Type 0 where
    pub ordered : Forest
    pub reordered : Reordered tss ordered
    pub same : kept_tasks slot all ≡ tasks (walk ordered)

abbrev pub itself : Slot → Slot
itself s = s

abbrev pub TreeIsWalked : Type 0
TreeIsWalked = (all : List (tree.Task Slot)) (tss : Forest) → Rests itself all tss → IsTree all →
    NumbersApart tss → Walks itself all tss
