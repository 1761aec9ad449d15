-- What is kept of the tasks of a tree, as the tree has them: each before those that it encloses,
-- and siblings in the order in which they began.
use Rattle.std.specs.Prelude.{ℕ, suc, eqb, List, [], ◌∷◌, map}
use Rattle.std.specs.Prelude.{Option, Some, None, option_map, if◌then◌else◌}
use Rattle.task_tree.specs.Tasks.{Task, task_at}
use Rattle.task_tree.specs.declared.tasks.Role.{Role}
use Rattle.task_tree.specs.declared.tasks.Role.TheVariants.{Root}
use Rattle.vm_tasks_laws.specs.Slots.{Slot, Held, by_machine, by_itself}
use Rattle.run_save_shots.specs.Kept as k
use Rattle.run_save_shots.specs.Kept.{KeptFrame, KeptRest, KeptTask}
use Rattle.run_save_shots.specs.Keeping.{entry_of, arm_in, arm_or, arms_behind, rest}
use Rattle.vm_shot_frames.specs.Frames.{kept_frames, depth_among}

-- nothing is kept of a task that the machine has
abbrev pub held_frames : Held → List KeptFrame
held_frames by_machine = []
held_frames (by_itself f below r) = kept_frames (arms_behind r) (f ∷ below)

abbrev pub held_rest : Held → KeptRest
held_rest by_machine = k.group []
held_rest (by_itself f below r) = rest r

-- the child of a number, by what its parent holds
abbrev pub role_under : Held → ℕ → Role
role_under by_machine n = Root
role_under (by_itself f below r) n = arm_or (arm_in n r) (depth_among n (f ∷ below))

abbrev pub role_beneath : Option Held → ℕ → Role
role_beneath None n = Root
role_beneath (Some h) n = role_under h n

module _ {T : Type 0} where
  -- where the task of a number stands
  abbrev pub place_in : ℕ → List (Task T) → Option ℕ
  place_in n [] = None
  place_in n (t ∷ ts) = if eqb t.number n then Some 0 else option_map suc (place_in n ts)

  abbrev pub parent_place : Option ℕ → List (Task T) → Option ℕ
  parent_place None ts = None
  parent_place (Some p) ts = place_in p ts

module _ {T : Type 0} (slot : T → Slot) where
  abbrev pub held_by : Option ℕ → List (Task T) → Option Held
  held_by None ts = None
  held_by (Some p) ts = option_map (λ (t : Task T). (slot t.item).held) (task_at p ts)

  -- among all tasks of the tree
  abbrev pub kept_task : List (Task T) → Task T → KeptTask
  kept_task ts t = record {
    parent = parent_place t.parent ts;
    role = role_beneath (held_by t.parent ts) (slot t.item).number;
    root = entry_of (slot t.item).role;
    frames = held_frames (slot t.item).held;
    rest = held_rest (slot t.item).held;
  }

  abbrev pub kept_tasks : List (Task T) → List KeptTask
  kept_tasks ts = map (kept_task ts) ts
