-- The tasks that wait until another is suspended or over, and those of the machine's definition
-- that they are.
use Rattle.std.specs.Prelude.{◌≡◌, ℕ, List, [], ◌∷◌, map, reverse, Option}
use Rattle.task_tree.specs.Tasks.{Task, HasNoChild}
use Rattle.verse_value.specs.View.{val_of}
use Rattle.verse_value.specs.declared.values.Value.{Value}
use Rattle.verse_code_machine.specs.Tasks as m
use Rattle.verse_code_machine.specs.Tasks.{Who, root, part, begins, branching, spawning, resuming}
use Rattle.verse_code_machine.specs.Tasks.{closing, finishing}
use Rattle.vm_frames.specs.Framed.{Framed}
use Rattle.vm_tasks.specs.declared.slots.Slot.{Slot}
use Rattle.vm_tasks.specs.View.{kind_of, part_of}
use Rattle.vm_scheduler.specs.declared.tasks.Begins.{Begins}
use Rattle.vm_scheduler.specs.declared.tasks.Up.{Up}
use Rattle.vm_scheduler.specs.declared.tasks.Up.TheVariants as up
use Rattle.vm_scheduler.specs.declared.tasks.After.{After}
use Rattle.vm_scheduler.specs.declared.tasks.After.TheVariants.{Resuming, Closing, Finishing}
use Rattle.vm_scheduler.specs.Frames.{threaded, Suspended}

-- the nearest first
abbrev pub ups_of : List Up → List Up
ups_of us = reverse us

abbrev pub id_of : Up → ℕ
id_of (up.Begins b) = b.id
id_of (up.Branching id fs) = id
id_of (up.Spawning id fs entry) = id

abbrev pub begins_of : Who → Begins → m.Up
begins_of w b = begins (threaded w b.thread) (kind_of b.kind) b.place (map part_of b.arms.items)
    b.number (reverse b.labels.items)

pub data UpsAre : List Up → List m.Up → Type 0 where
  no_ups : UpsAre [] []
  begins_up : {us : List Up} {ms : List m.Up} (b : Begins) (w : Who) → Suspended w.number b.thread →
      UpsAre us ms → UpsAre (up.Begins b ∷ us) (begins_of w b ∷ ms)
  branching_up : {us : List Up} {ms : List m.Up} (id : ℕ) (fs : List Framed) (w : Who) →
      Suspended w.number fs → UpsAre us ms →
      UpsAre (up.Branching id fs ∷ us) (branching (threaded w fs) ∷ ms)
  spawning_up : {us : List Up} {ms : List m.Up} (id : ℕ) (fs : List Framed) (entry : ℕ) (w : Who)
      (ps qs : List m.Task) → Suspended w.number fs → UpsAre us ms →
      UpsAre (up.Spawning id fs entry ∷ us) (spawning (threaded w fs) entry ps qs ∷ ms)

-- of the task that cancels, by its number in the tree; where it is over then, it has no children
pub data IsAfter (tasks : List (Task (Slot (List Framed)))) (id : ℕ) : After → m.After →
    Type 0 where
  resuming_after : (fs : List Framed) (v : Value) (w : Who) → Suspended w.number fs →
      IsAfter tasks id (Resuming fs v) (resuming (threaded w fs) (val_of v))
  closing_after : (v : Value) (w : Who) → w.role ≡ part → HasNoChild id tasks →
      IsAfter tasks id (Closing v) (closing w (val_of v))
  finishing_after : (v : Value) (w : Who) (entry : Option ℕ) → w.role ≡ root entry →
      HasNoChild id tasks → IsAfter tasks id (Finishing v) (finishing w entry (val_of v))
