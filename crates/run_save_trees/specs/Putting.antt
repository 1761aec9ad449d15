-- What a tree stands for into which a task more is put.
use Rattle.std.specs.Prelude.{◌≡◌, ◌<◌, ℕ, true, List, [], ◌∷◌, ◌++◌, map, Option, Some, None}
use Rattle.task_tree.specs.Tasks.{Task, task_at, suits}
use Rattle.task_tree.specs.Nested.{IsTree}
use Rattle.task_tree.specs.Removing.{Added}
use Rattle.verse_code_machine.specs.Tasks as m
use Rattle.verse_code_machine.specs.Tasks.{root_named, child_named}
use Rattle.verse_code_machine.specs.Runs.{Forest}
use Rattle.vm_tasks_laws.specs.Slots.{Slot, arms_at, ArmedBy}
use Rattle.vm_tasks_laws.specs.Standing.{Rests}
use Rattle.run_save_shots.specs.Lists.{Each}
use Rattle.run_save_shots.specs.Spelling.{before_parent}
use Rattle.run_save_spelled.specs.Growing.{Inserted}
use Rattle.run_save_trees.specs.Puts.{IsKept, Unlike}

abbrev pub itself : Slot → Slot
itself s = s

-- a task of its own is a tree more
abbrev pub RootsPut : Type 0
RootsPut = (tasks new : List (Task Slot)) (tss : Forest) (u : Task Slot) (y : m.Task)
    (entry : Option ℕ) → Rests itself tasks tss → Added u tasks new → u.parent ≡ None →
    suits u.parent u.role ≡ true → IsKept y u.item →
    y.thread.who ≡ root_named y.thread.who.number entry →
    Rests itself new (tss ++ (y ∷ []) ∷ [])

-- A part stands in its parent's tree, where its number is below all others, and below that of the
-- parent's group exactly where it is an arm.
abbrev pub PartsPut : Type 0
PartsPut = (tasks new : List (Task Slot)) (tss : Forest) (u t : Task Slot) (x y : m.Task) (i : ℕ) →
    Rests itself tasks tss → IsTree tasks → Unlike itself tasks → Inserted x y tss →
    task_at i tasks ≡ Some t → t.item.number ≡ x.thread.who.number → Added u tasks new →
    u.parent ≡ Some i → suits u.parent u.role ≡ true → IsKept y u.item →
    y.thread.who ≡ child_named x.thread.who y.thread.who.number →
    Each (λ (v : Task Slot). y.thread.who.number < v.item.number) tasks →
    ArmedBy t.item.since (arms_at x.rest) y.thread.who.number →
    Rests itself new (map (before_parent y) tss)
