-- What the tasks of a tree hold, where their frames are threads.
use Rattle.std.specs.Prelude.{◌≡◌, ◌≢◌, ℕ, List, [], ◌∷◌, map}
use Rattle.task_tree.specs.Tasks.{Task}
use Rattle.verse_code_machine.specs.Tasks.{Frame}
use Rattle.vm_frames.specs.Framed.{Framed}
use Rattle.vm_frames.specs.Machine.{frames_with}
use Rattle.vm_tasks.specs.declared.slots.Slot.{Slot}
use Rattle.vm_tasks.specs.declared.slots.Held.{Held}
use Rattle.vm_tasks.specs.declared.slots.Held.TheVariants.{ByMachine, Asleep, AtGroup}

-- the frames of a task in the definition: the top one, and those below it
abbrev pub AreFrames : (List Framed → Frame × List Frame) → Type 0
AreFrames frames = (fs : List Framed) → fs ≢ [] → (frames fs).0 ∷ (frames fs).1 ≡ frames_with fs []

-- a task that is suspended has frames
abbrev pub HasFrames : Held (List Framed) → Type 0
HasFrames ByMachine = Unit {0}
HasFrames (Asleep fs n kind) = fs ≢ []
HasFrames (AtGroup fs g) = fs ≢ []

abbrev pub AllHaveFrames : List (Task (Slot (List Framed))) → Type 0
AllHaveFrames [] = Unit {0}
AllHaveFrames (t ∷ ts) = HasFrames t.item.held × AllHaveFrames ts

-- the numbers of the tasks in the tree
abbrev pub ids_of : List (Task (Slot (List Framed))) → List ℕ
ids_of ts = map (λ (t : Task (Slot (List Framed))). t.number) ts
