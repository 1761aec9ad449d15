-- Numbers and names for the tasks that are kept.
use Rattle.std.specs.Prelude.{ℕ, suc, ◌+◌, ◌*◌, nat_le, Bool, true, false, ◌&&◌, List, length}
use Rattle.std.specs.Prelude.{Option, Some, None}
use Rattle.task_tree.specs.declared.tasks.Role.{Role}
use Rattle.task_tree.specs.declared.tasks.Role.TheVariants.{Root, Arm, Behind}
use Rattle.verse_meaning_state.specs.Waits.{nth}
use Rattle.verse_code_machine.specs.Tasks.{Who, root_named, child_named}
use Rattle.run_save_shots.specs.Lists.{from}
use Rattle.run_save_shots.specs.Kept.{KeptTask, Kept}
use Rattle.run_save_shots.specs.Fitting.{is_child_of, is_arm_of}

-- it is an arm, or stands in the background of the frame of this depth or of one above
abbrev pub is_since : ℕ → Role → Bool
is_since depth (Behind d) = nat_le depth d
is_since depth (Arm place) = true
is_since depth Root = false

-- the task at a place has begun it since the frame of this depth began
abbrev pub is_begun_since : (at depth : ℕ) → KeptTask → Bool
is_begun_since at depth t = is_child_of at t && is_since depth t.role

-- Numbers fall along the list of tasks, from one to the next by more than a task has frames. They
-- are above the steps that are left, so that what begins later has lower ones.
module _ (s : Kept) where
  -- of the task with which these begin
  abbrev pub number_at : List KeptTask → ℕ
  number_at ts = s.left + suc s.spent * length ts

  -- The frame of a depth of the task at a place, behind which these tasks stand: above the number
  -- of the first task that it or a frame above it has begun, and above those frames, of which there
  -- are so many with itself.
  abbrev pub born_at : (at depth frames : ℕ) → List KeptTask → ℕ
  born_at at depth frames ts = number_at (from (is_begun_since at depth) ts) + frames

  -- the child that is an arm
  abbrev pub arm_at : (at place : ℕ) → List KeptTask → ℕ
  arm_at at place ts = number_at (from (is_arm_of at place) ts)

-- beneath a parent; none is that of a task of its own
abbrev pub named : Option Who → Option ℕ → ℕ → Who
named None entry n = root_named n entry
named (Some w) entry n = child_named w n

-- the parent's name is among those of the tasks before
abbrev pub parent_in : List Who → Option ℕ → Option Who
parent_in ws None = None
parent_in ws (Some p) = nth ws p
