-- What is read of a task that is suspended.
use Rattle.std.specs.Prelude.{ℕ, suc, nat_eq, Bool, false, List, [], ◌∷◌, Option, Some, None}
use Rattle.std.specs.Prelude.{if◌then◌else◌}
use Rattle.sim_clock.specs.declared.waits.WaitKind.{WaitKind}
use Rattle.vm_tasks.specs.declared.slots.Held.{Held}
use Rattle.vm_tasks.specs.declared.slots.Held.TheVariants.{ByMachine, Asleep, AtGroup}
use Rattle.vm_tasks.specs.declared.slots.Group.{Group}
use Rattle.vm_tasks.specs.declared.slots.Arm.{Arm}
use Rattle.vm_tasks.specs.declared.slots.Arm.TheVariants.{Did, Runs}

module _ {F : Type 0} where
  -- None while the machine has them
  abbrev pub frames_at : Held F → Option F
  frames_at ByMachine = None
  frames_at (Asleep f n kind) = Some f
  frames_at (AtGroup f g) = Some f

  -- the number and the kind of the wait of a task that is asleep
  abbrev pub wait_at : Held F → Option (ℕ × WaitKind)
  wait_at ByMachine = None
  wait_at (Asleep f n kind) = Some (n, kind)
  wait_at (AtGroup f g) = None

  abbrev pub group_at : Held F → Option Group
  group_at ByMachine = None
  group_at (Asleep f n kind) = None
  group_at (AtGroup f g) = Some g

-- the arm is the child of this number
abbrev pub is_child : ℕ → Arm → Bool
is_child number (Did v) = false
is_child number (Runs n) = nat_eq n number

-- the place of the first that is, where `before` arms stand before these
abbrev pub place_from : ℕ → (before : ℕ) → List Arm → Option ℕ
place_from number before [] = None
place_from number before (arm ∷ arms) =
    if is_child number arm then Some before else place_from number (suc before) arms

abbrev pub arm_place : ℕ → List Arm → Option ℕ
arm_place number arms = place_from number 0 arms
