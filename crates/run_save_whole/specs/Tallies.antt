-- What is counted of all tasks about each entry and each task.
use Rattle.std.specs.Prelude.{ℕ, suc, ◌+◌, ◌==◌, Bool, true, false, not, ◌&&◌, ◌||◌, max, nat_lt}
use Rattle.std.specs.Prelude.{if◌then◌else◌, List, [], ◌∷◌}
use Rattle.std.specs.Prelude.{length, map, set, get_or, replicate, Option, Some, None}
use Rattle.task_tree.specs.declared.tasks.Role.{Role}
use Rattle.task_tree.specs.declared.tasks.Role.TheVariants.{Root, Arm, Behind}
use Rattle.verse_code.specs.declared.codes.Code.{Code}
use Rattle.verse_value.specs.Val.{Val}
use Rattle.verse_meaning_state.specs.State.{Given}
use Rattle.run_save_shots.specs.Kept.{KeptRest, leaf, group, KeptTask}
use Rattle.run_save_shots.specs.Fitting.{Stand, task_stand, arms_of, is_root, runs_once, unfinished}
use Rattle.run_save_whole.specs.declared.order.Floor.{Floor}
use Rattle.run_save_format.specs.Whole.{is_later, child_breaks, group_breaks}

-- ---- counts up to 2

abbrev pub one_more : ℕ → ℕ
one_more n = if nat_lt n 2 then suc n else n

-- one more at a place, where there is one
abbrev pub counted : List ℕ → ℕ → List ℕ
counted counts at = set counts at (one_more (get_or counts at 0))

-- ---- the tasks of entries

abbrev pub with_root : List ℕ → Option ℕ → Option ℕ → List ℕ
with_root counts None (Some entry) = counted counts entry
with_root counts parent root = counts

abbrev pub with_roots : List ℕ → List KeptTask → List ℕ
with_roots counts [] = counts
with_roots counts (t ∷ ts) = with_roots (with_root counts t.parent t.root) ts

-- ---- arms

-- of the children of a task that are arms how many there are of each place, and whether there is
-- one of another place
abbrev pub Marks : Type 0
Marks = List ℕ × Bool

abbrev pub unmarked : Marks
unmarked = ([], false)

abbrev pub marked : Marks → ℕ → Marks
marked m place = if nat_lt place (length m.0) then (counted m.0 place, m.1) else (m.0, true)

abbrev pub with_arm : List Marks → Option ℕ → Role → List Marks
with_arm ms (Some parent) (Arm place) = set ms parent (marked (get_or ms parent unmarked) place)
with_arm ms parent role = ms

abbrev pub with_arms : List Marks → List KeptTask → List Marks
with_arms ms [] = ms
with_arms ms (t ∷ ts) = with_arms (with_arm ms t.parent t.role) ts

-- before any arm is seen
abbrev pub no_marks : KeptTask → Marks
no_marks t = (replicate (length (arms_of t.rest)) 0, false)

abbrev pub all_marks : List KeptTask → List Marks
all_marks ts = with_arms (map no_marks ts) ts

-- ---- the order of siblings

-- before any child is seen
abbrev pub open_floor : Floor
open_floor = record { closed = false; depth = 0 }

-- with a child more
abbrev pub raised : Floor → Role → Floor
raised f Root = f
raised f (Arm place) = record { closed = true; depth = f.depth }
raised f (Behind depth) = record { closed = f.closed; depth = max f.depth depth }

-- a child may not stand at this depth
abbrev pub is_under : Floor → ℕ → Bool
is_under f depth = f.closed || nat_lt depth f.depth

abbrev pub with_child : List Floor → Option ℕ → Role → List Floor
with_child floors None role = floors
with_child floors (Some parent) role =
    set floors parent (raised (get_or floors parent open_floor) role)

abbrev pub with_children : List Floor → List KeptTask → List Floor
with_children floors [] = floors
with_children floors (t ∷ ts) = with_children (with_child floors t.parent t.role) ts

-- ---- the rules by what is counted

-- among entries from a number on
abbrev pub wrong_entry : (roots : List ℕ) → ℕ → List (Option Given) → Option ℕ
wrong_entry roots n [] = None
wrong_entry roots n (g ∷ gs) =
    if not (get_or roots n 0 == runs_once g) then Some n else wrong_entry roots (suc n) gs

-- among arms from a place on
abbrev pub wrong_arm : (counts : List ℕ) → ℕ → List (Option Val) → Bool
wrong_arm counts n [] = false
wrong_arm counts n (arm ∷ arms) =
    not (get_or counts n 0 == unfinished (Some arm)) || wrong_arm counts (suc n) arms

abbrev pub wrong_rest : Stand → Marks → KeptRest → Bool
wrong_rest stand m (leaf number cause) = false
wrong_rest stand m (group arms) = wrong_arm m.0 0 arms || m.1 || group_breaks stand arms

abbrev pub rest_wrong : Code → KeptTask → Marks → Bool
rest_wrong c t m = wrong_rest (task_stand c t) m t.rest

abbrev pub is_low : List Floor → Option ℕ → Role → Bool
is_low floors (Some parent) (Behind depth) = is_under (get_or floors parent open_floor) depth
is_low floors parent role = false

module _ (c : Code) (spent : ℕ) (ts : List KeptTask) where
  abbrev pub breaks_at : (at : ℕ) → Marks → (has_main : Bool) → (floors : List Floor) →
      (frames : ℕ) → KeptTask → Bool
  breaks_at at m has_main floors frames t =
      is_later at t.parent || is_root None t && has_main || child_breaks ts t.parent t.role ||
      is_low floors t.parent t.role || rest_wrong c t m ||
      nat_lt (suc spent) (frames + length t.frames)

  -- from a place on
  abbrev pub wrong_task : List Marks → (at : ℕ) → (has_main : Bool) → (floors : List Floor) →
      (frames : ℕ) → List KeptTask → Option ℕ
  wrong_task ms at has_main floors frames [] = None
  wrong_task ms at has_main floors frames (t ∷ others) =
      if breaks_at at (get_or ms at unmarked) has_main floors frames t then Some at else
      wrong_task ms (suc at) (has_main || is_root None t) (with_child floors t.parent t.role)
      (frames + length t.frames) others
