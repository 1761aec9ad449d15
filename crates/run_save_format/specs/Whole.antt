-- The rules on the whole list: the first part that breaks one.
use Rattle.std.specs.Prelude.{ℕ, suc, ◌+◌, ◌==◌, nat_lt, nat_le, Bool, true, false, not, ◌&&◌, ◌||◌}
use Rattle.std.specs.Prelude.{List, [], ◌∷◌, ◌++◌, length}
use Rattle.std.specs.Prelude.{Option, Some, None, slice_get, Result, Ok, Err, if◌then◌else◌}
use Rattle.task_tree.specs.declared.tasks.Role.{Role}
use Rattle.task_tree.specs.declared.tasks.Role.TheVariants.{Root, Arm, Behind}
use Rattle.verse_code.specs.declared.codes.Code.{Code}
use Rattle.verse_image.specs.declared.faults.Flaw.{Flaw}
use Rattle.verse_image.specs.Reading.{◌>>=◌, flaw}
use Rattle.verse_value.specs.Val.{Val, task, some, array, mapping, tuple, Vals, no_vals, more_vals}
use Rattle.verse_value.specs.Val.{vals, Pairs, no_pairs}
use Rattle.verse_value.specs.Val.{more_pairs}
use Rattle.verse_value.specs.Store.{Cell}
use Rattle.verse_meaning_state.specs.State.{Given}
use Rattle.run_save_shots.specs.Lists.{count}
use Rattle.run_save_shots.specs.Kept.{KeptRest, leaf, group, KeptTask, Kept}
use Rattle.run_save_shots.specs.Fitting.{Stand, gathers, task_stand, is_root, is_child_of}
use Rattle.run_save_shots.specs.Fitting.{is_arm_of, runs_once, unfinished, frames_of}
use Rattle.run_save_shots.specs.Fitting.{is_running}
use Rattle.run_save_format.specs.Format.{saved_word}
use Rattle.run_save_format.specs.Reading.{Found, parts_found_at}

-- ---- cells

-- it names a task that is none of so many entries
abbrev mutual
  pub names_none : (entries : ℕ) → Val → Bool
  names_none n (task entry) = nat_le n entry
  names_none n (some v) = names_none n v
  names_none n (array vs) = name_none n vs
  names_none n (mapping ps) = pairs_name_none n ps
  names_none n (tuple vs) = name_none n vs
  names_none n v = false

  pub name_none : ℕ → Vals → Bool
  name_none n no_vals = false
  name_none n (more_vals v vs) = names_none n v || name_none n vs

  pub pairs_name_none : ℕ → Pairs → Bool
  pairs_name_none n no_pairs = false
  pairs_name_none n (more_pairs k v ps) = names_none n v || pairs_name_none n ps

abbrev pub any : {A : Type 0} → (A → Bool) → List A → Bool
any test [] = false
any test (x ∷ xs) = test x || any test xs

abbrev pub breaks_cell : (entries : ℕ) → Cell → Bool
breaks_cell n c = name_none n (vals c.slots)

-- ---- spawned entries

abbrev pub breaks_entry : List KeptTask → ℕ → Option Given → Bool
breaks_entry ts entry given = not (count (is_root (Some entry)) ts == runs_once given)

-- ---- tasks

abbrev pub is_later : (at : ℕ) → Option ℕ → Bool
is_later at None = false
is_later at (Some p) = nat_le at p

-- where its arms from a place on do not run once each
abbrev pub arms_break : List KeptTask → (at place : ℕ) → List (Option Val) → Bool
arms_break ts at place [] = false
arms_break ts at place (arm ∷ arms) =
    not (count (is_arm_of at place) ts == unfinished (Some arm)) ||
    arms_break ts at (suc place) arms

-- a child that is an arm of a place that there is not
abbrev pub is_beyond : (at arms : ℕ) → KeptTask → Bool
is_beyond at arms t = is_child_of at t && place_beyond t.role where
  place_beyond : Role → Bool
  place_beyond (Arm place) = nat_le arms place
  place_beyond role = false

abbrev pub group_breaks : Stand → List (Option Val) → Bool
group_breaks (gathers k m p) arms =
    count is_running arms == 0 || not (k == 0 || count is_running arms == length arms)
group_breaks stand arms = true

abbrev pub rest_breaks : Code → List KeptTask → (at : ℕ) → KeptTask → KeptRest → Bool
rest_breaks c ts at t (leaf number cause) = false
rest_breaks c ts at t (group arms) =
    arms_break ts at 0 arms || any (is_beyond at (length arms)) ts ||
    group_breaks (task_stand c t) arms

abbrev pub is_group : Option KeptTask → Bool
is_group None = false
is_group (Some t) = gathers_arms t.rest where
  gathers_arms : KeptRest → Bool
  gathers_arms (group arms) = true
  gathers_arms (leaf number cause) = false

-- beneath a parent of the list: an arm of a task that is at no group, or in the background of a
-- frame that there is not
abbrev pub role_breaks : Option KeptTask → Role → Bool
role_breaks p Root = false
role_breaks p (Arm place) = not (is_group p)
role_breaks p (Behind depth) = nat_le (frames_of p) depth

abbrev pub child_breaks : List KeptTask → Option ℕ → Role → Bool
child_breaks ts None role = false
child_breaks ts (Some p) role = role_breaks (slice_get ts p) role

abbrev pub may_follow : Role → Role → Bool
may_follow (Behind d) (Behind e) = nat_le d e
may_follow (Arm place) (Behind e) = false
may_follow first later = true

-- a sibling before it behind which it may not stand
abbrev pub is_disordered : Option ℕ → Role → KeptTask → Bool
is_disordered None role t = false
is_disordered (Some p) role t = is_child_of p t && not (may_follow t.role role)

module _ (c : Code) (spent : ℕ) (ts : List KeptTask) where
  -- the task at a place, where the tasks before are these, with so many frames
  abbrev pub breaks_task : (before : List KeptTask) → (frames : ℕ) → KeptTask → Bool
  breaks_task before frames t =
      is_later (length before) t.parent || is_root None t && any (is_root None) before ||
      child_breaks ts t.parent t.role || any (is_disordered t.parent t.role) before ||
      rest_breaks c ts (length before) t t.rest || nat_lt (suc spent) (frames + length t.frames)

  -- where the first task stands that breaks a rule
  abbrev pub broken_task : (before : List KeptTask) → (frames : ℕ) → List KeptTask → Option ℕ
  broken_task before frames [] = None
  broken_task before frames (t ∷ others) =
      if breaks_task before frames t then Some (length before) else broken_task (before ++ t ∷ [])
      (frames + length t.frames) others

abbrev pub broken_entry : List KeptTask → ℕ → List (Option Given) → Option ℕ
broken_entry ts entry [] = None
broken_entry ts entry (g ∷ others) =
    if breaks_entry ts entry g then Some entry else broken_entry ts (suc entry) others

abbrev pub broken_cell : (entries : ℕ) → ℕ → List Cell → Option ℕ
broken_cell n address [] = None
broken_cell n address (c ∷ others) =
    if breaks_cell n c then Some address else broken_cell n (suc address) others

-- how many bytes are left at the part of a place
abbrev pub left_at : List ℕ → Option ℕ → Option ℕ
left_at lefts None = None
left_at lefts (Some place) = slice_get lefts place

abbrev pub or_else : Option ℕ → Option ℕ → Option ℕ
or_else None other = other
or_else (Some left) other = Some left

-- at the first part that breaks a rule: cells stand before entries, and these before tasks
abbrev pub broken : Found → Option ℕ
broken m =
    or_else (left_at m.cell_lefts (broken_cell (length m.kept.spawned) 0 m.kept.cells))
    (or_else (left_at m.entry_lefts (broken_entry m.kept.tasks 0 m.kept.spawned))
    (left_at m.task_lefts (broken_task m.code m.kept.spent m.kept.tasks [] 0 m.kept.tasks)))

abbrev pub whole : Found → Option ℕ → Result (Code × Kept) Flaw
whole m None = Ok (m.code, m.kept)
whole m (Some left) = Err (flaw 5 left)

-- ---- files

-- the line's rest behind the word
abbrev pub behind_word : List ℕ → List ℕ → Bool
behind_word [] line = true
behind_word (w ∷ ws) [] = false
behind_word (w ∷ ws) (b ∷ bytes) = w == b && behind_word ws bytes

-- behind the first line that begins with the word: whether a line begins here, and whether the line
-- is such a one
unfoldable pub start_at : (begins is : Bool) → List ℕ → Result (List ℕ) Flaw
start_at begins is [] = Err (flaw 1 0)
start_at begins is (b ∷ bytes) =
    if is || begins && behind_word saved_word (b ∷ bytes)
    then (if b == 10 then Ok bytes else start_at false true bytes)
    else start_at (b == 10) false bytes

-- the code and what is kept that the saved bytes spell, or the first failing place
unfoldable pub run_at : List ℕ → Result (Code × Kept) Flaw
run_at bytes = parts_found_at bytes >>= λ m. whole m (broken m)

-- and those of a file
unfoldable pub file_at : List ℕ → Result (Code × Kept) Flaw
file_at file = start_at true false file >>= run_at
