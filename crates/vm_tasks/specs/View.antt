-- What a slot stands for, where `frames` are a task's frames in the machine's definition, the top
-- one and those below it.
use Rattle.std.specs.Prelude.{List, map, Some, None}
use Rattle.verse_value.specs.View.{val_of}
use Rattle.verse_meaning_state.specs.Turns as turns
use Rattle.verse_code_machine.specs.Tasks.{Frame, Role, root, part, Part, did, runs, asleep, group}
use Rattle.vm_tasks_laws.specs.Slots as table
use Rattle.vm_tasks_laws.specs.Clocks.{cause_of}
use Rattle.vm_tasks.specs.declared.slots.Slot.{Slot}
use Rattle.vm_tasks.specs.declared.slots.Held.{Held}
use Rattle.vm_tasks.specs.declared.slots.Held.TheVariants.{ByMachine, Asleep, AtGroup}
use Rattle.vm_tasks.specs.declared.slots.Root.{Root}
use Rattle.vm_tasks.specs.declared.slots.Root.TheVariants.{Part as APart, Main, Spawned}
use Rattle.vm_tasks.specs.declared.slots.Kind.{Kind}
use Rattle.vm_tasks.specs.declared.slots.Kind.TheVariants.{Sync, Race, Rush}
use Rattle.vm_tasks.specs.declared.slots.Arm.{Arm}
use Rattle.vm_tasks.specs.declared.slots.Arm.TheVariants.{Did, Runs}

abbrev pub role_of : Root → Role
role_of APart = part
role_of Main = root None
role_of (Spawned entry) = root (Some entry)

abbrev pub kind_of : Kind → turns.Kind
kind_of Sync = turns.sync
kind_of Race = turns.race
kind_of Rush = turns.rush

abbrev pub part_of : Arm → Part
part_of (Did v) = did (val_of v)
part_of (Runs n) = runs n

module _ {F : Type 0} (frames : F → Frame × List Frame) where
  abbrev pub held_of : Held F → table.Held
  held_of ByMachine = table.by_machine
  held_of (Asleep f n kind) = table.by_itself (frames f).0 (frames f).1
      (asleep (record { number = n; cause = cause_of kind }))
  held_of (AtGroup f g) = table.by_itself (frames f).0 (frames f).1
      (group (kind_of g.kind) g.place (map part_of g.arms.items))

  abbrev pub slot_of : Slot F → table.Slot
  slot_of s = record {
    number = s.number;
    since = s.since;
    role = role_of s.root;
    held =
        held_of s.held;
  }
