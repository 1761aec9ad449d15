-- When what is kept of a run fits a valid code.
use Rattle.std.specs.Prelude.{◌≡◌, ◌⊎◌, ℕ, zero, suc, ◌+◌, ◌≤◌, ◌<◌, ◌==◌, Bool, true, false, ◌&&◌}
use Rattle.std.specs.Prelude.{List, [], ◌∷◌, length, Option, Some, None, option_map, slice_get}
use Rattle.task_tree.specs.declared.tasks.Role.{Role}
use Rattle.task_tree.specs.declared.tasks.Role.TheVariants.{Arm, Behind}
use Rattle.task_tree.specs.Tasks.{suits, is_child}
use Rattle.verse_base.specs.declared.limits.TheConstants.{MOST_TRACE_BYTES}
use Rattle.verse_code.specs.declared.operations.Op.{Op}
use Rattle.verse_code.specs.declared.operations.Op.TheVariants as o
use Rattle.verse_code.specs.declared.codes.Code.{Code}
use Rattle.verse_value.specs.Val.{Val, char, task, some, array, mapping, tuple, Vals, no_vals}
use Rattle.verse_value.specs.Val.{more_vals, Pairs, no_pairs, more_pairs}
use Rattle.verse_value.specs.declared.keys.Key.{Key}
use Rattle.verse_value.specs.declared.keys.Key.TheVariants as key
use Rattle.verse_value.specs.Keys.{at_key}
use Rattle.verse_value.specs.Sizes.{fits}
use Rattle.verse_value.specs.declared.sizes.TheConstants.{MOST_STORE_WEIGHT}
use Rattle.verse_value.specs.Store.{Cell, store_weight}
use Rattle.verse_value.specs.declared.runs.CellKind.TheVariants as cell
use Rattle.verse_meaning_state.specs.State.{Given}
use Rattle.verse_meaning_state.specs.Waits.{Cause, till, never, done, heard, nth}
use Rattle.verse_code_machine.specs.Belonging.{StoreBelongs}
use Rattle.verse_base.specs.declared.limits.TheConstants.{MOST_STEPS, MOST_NOW, MOST_MOMENT}
use Rattle.run_save_shots.specs.Lists.{Each, EachAt, EachTwo, AreDistinct, count}
use Rattle.run_save_shots.specs.Kept.{KeptFrame, KeptRest, leaf, group, KeptTask, Kept}

-- ---- values

abbrev pub KeyIsSound : Key → Type 0
KeyIsSound (key.Char c) = c ≤ 255
KeyIsSound (key.Text bytes) = Each (λ b. b ≤ 255) bytes
KeyIsSound k = Unit {0}

-- among so many spawned entries: a char is a byte, a task names an entry, and the keys of a map are
-- distinct; an object or an event may have any number
abbrev mutual
  pub IsSound : (entries : ℕ) → Val → Type 0
  IsSound n (char c) = c ≤ 255
  IsSound n (task entry) = entry < n
  IsSound n (some v) = IsSound n v
  IsSound n (array vs) = AreSound n vs
  IsSound n (mapping ps) = PairsAreSound n ps
  IsSound n (tuple vs) = AreSound n vs
  IsSound n v = Unit {0}

  pub AreSound : ℕ → Vals → Type 0
  AreSound n no_vals = Unit {0}
  AreSound n (more_vals v vs) = IsSound n v × AreSound n vs

  pub PairsAreSound : ℕ → Pairs → Type 0
  PairsAreSound n no_pairs = Unit {0}
  PairsAreSound n (more_pairs k v ps) = KeyIsSound k × IsSound n v × (at_key ps k ≡ None) ×
      PairsAreSound n ps

-- a value of a run: neither too heavy nor too deep, and sound
pub record ValueFits (entries : ℕ) (v : Val) : Type 0 where
  pub small : fits v ≡ true
  pub sound : IsSound entries v

abbrev pub ValuesFit : ℕ → List Val → Type 0
ValuesFit n vs = Each (ValueFits n) vs

abbrev pub GivenFits : ℕ → Option Given → Type 0
GivenFits n None = Unit {0}
GivenFits n (Some g) = ValueFits n g.value

abbrev pub ArmFits : ℕ → Option Val → Type 0
ArmFits n None = Unit {0}
ArmFits n (Some v) = ValueFits n v

-- ---- places

-- what an operation is to a frame that stands at it
pub data Stand : Type 0 where
  calls : Stand
  sleeps : Stand
  stays : Stand
  awaits_task : Stand
  awaits_event : Stand
  -- how the group ends, how many arms it has, and the number of its place in the source
  gathers : (kind arms place : ℕ) → Stand
  goes_on : Stand

abbrev pub stand_of : Op → Stand
stand_of (o.Call f) = calls
stand_of (o.Method n m) = calls
stand_of (o.Sleep n) = sleeps
stand_of o.Forever = stays
stand_of o.AwaitTask = awaits_task
stand_of o.AwaitEvent = awaits_event
stand_of (o.Group k m p) = gathers k m p
stand_of op = goes_on

abbrev pub stand_in : Option Op → Stand
stand_in None = goes_on
stand_in (Some op) = stand_of op

abbrev pub stand_at : Code → ℕ → Stand
stand_at c place = stand_in (slice_get c.ops place)

-- a task whose top frame stands there waits for this: a moment, nothing, a task, an event, or so
-- many arms
abbrev pub RestSuits : Stand → KeptRest → Type 0
RestSuits sleeps (leaf n (till moment)) = Unit {0}
RestSuits stays (leaf n never) = Unit {0}
RestSuits awaits_task (leaf n (done entry)) = Unit {0}
RestSuits awaits_event (leaf n (heard event)) = Unit {0}
RestSuits (gathers k m p) (group arms) = length arms ≡ m
RestSuits stand rest = ⊥

-- there is a frame; the top one stands where the task waits, and each lower one at a call
abbrev pub FramesSuit : Code → KeptRest → List KeptFrame → Type 0
FramesSuit c rest [] = ⊥
FramesSuit c rest (f ∷ []) = RestSuits (stand_at c f.place) rest
FramesSuit c rest (f ∷ g ∷ fs) = (stand_at c f.place ≡ calls) × FramesSuit c rest (g ∷ fs)

abbrev pub is_defer : Option Op → Bool
is_defer (Some (o.Defer l)) = true
is_defer op = false

-- the index after a Defer
abbrev pub IsBlock : Code → ℕ → Type 0
IsBlock c zero = ⊥
IsBlock c (suc at) = is_defer (slice_get c.ops at) ≡ true

pub record FrameFits (c : Code) (entries : ℕ) (f : KeptFrame) : Type 0 where
  pub locals : ValuesFit entries f.locals
  pub stack : ValuesFit entries f.stack
  pub defers : Each (IsBlock c) f.defers

-- ---- waits

-- the moment is to come, the task runs, the cell is an event's
abbrev pub CauseFits : Kept → Cause → Type 0
CauseFits s (till moment) = (s.now ≤ moment) × (moment ≤ MOST_MOMENT)
CauseFits s never = Unit {0}
CauseFits s (done entry) = nth s.spawned entry ≡ Some None
CauseFits s (heard event) = option_map (λ (c : Cell). c.kind) (slice_get s.cells event) ≡
    Some cell.Event

abbrev pub is_running : Option Val → Bool
is_running None = true
is_running (Some v) = false

-- an arm is unfinished, and only a `sync` has finished ones
abbrev pub GroupStands : Stand → List (Option Val) → Type 0
GroupStands (gathers k m p) arms = (1 ≤ count is_running arms) ×
    ((k ≡ 0) ⊎ (count is_running arms ≡ length arms))
GroupStands stand arms = ⊥

-- in a task that stands there
abbrev pub RestFits : Kept → Stand → KeptRest → Type 0
RestFits s stand (leaf number cause) = (number < s.next) × CauseFits s cause
RestFits s stand (group arms) = Each (ArmFits (length s.spawned)) arms × GroupStands stand arms

-- ---- tasks

abbrev pub top_place : List KeptFrame → ℕ
top_place [] = 0
top_place (f ∷ []) = f.place
top_place (f ∷ g ∷ fs) = top_place (g ∷ fs)

-- where its top frame stands
abbrev pub task_stand : Code → KeptTask → Stand
task_stand c t = stand_at c (top_place t.frames)

-- the entry is there, and a task with a parent has none
abbrev pub RootFits : ℕ → Option ℕ → Option ℕ → Type 0
RootFits n parent None = Unit {0}
RootFits n None (Some entry) = entry < n
RootFits n (Some p) (Some entry) = ⊥

pub record TaskFits (c : Code) (s : Kept) (t : KeptTask) : Type 0 where
  -- Root exactly where it has no parent
  pub role : suits t.parent t.role ≡ true
  pub root : RootFits (length s.spawned) t.parent t.root
  pub few : length t.frames ≤ s.spent
  pub suit : FramesSuit c t.rest t.frames
  pub frames : Each (FrameFits c (length s.spawned)) t.frames
  pub rest : RestFits s (task_stand c t) t.rest

-- ---- the whole list

abbrev pub waits_in : List KeptTask → List ℕ
waits_in [] = []
waits_in (t ∷ ts) = wait_before t.rest (waits_in ts) where
  wait_before : KeptRest → List ℕ → List ℕ
  wait_before (leaf number cause) ns = number ∷ ns
  wait_before (group arms) ns = ns

-- the parent stands before it
abbrev pub ParentBefore : ℕ → KeptTask → Type 0
ParentBefore at t = (p : ℕ) → t.parent ≡ Some p → p < at

-- Main, or the task of an entry
abbrev pub is_root : Option ℕ → KeptTask → Bool
is_root entry t = is_child None t.parent && is_child entry t.root

abbrev pub runs_once : Option Given → ℕ
runs_once None = 1
runs_once (Some g) = 0

-- a running entry has one root task, a finished one none
abbrev pub HasRoot : List KeptTask → ℕ → Option Given → Type 0
HasRoot ts entry given = count (is_root (Some entry)) ts ≡ runs_once given

abbrev pub is_child_of : ℕ → KeptTask → Bool
is_child_of at t = is_child (Some at) t.parent

-- the arm of a place of the task that stands there
abbrev pub is_arm_of : (at place : ℕ) → KeptTask → Bool
is_arm_of at place t = is_child_of at t && is_place t.role where
  is_place : Role → Bool
  is_place (Arm p) = p == place
  is_place role = false

abbrev pub arms_of : KeptRest → List (Option Val)
arms_of (leaf number cause) = []
arms_of (group arms) = arms

abbrev pub unfinished : Option (Option Val) → ℕ
unfinished (Some None) = 1
unfinished (Some (Some v)) = 0
unfinished None = 0

-- its unfinished arms, and no others, have one child each
abbrev pub ArmsRun : List KeptTask → ℕ → KeptTask → Type 0
ArmsRun ts at t = (place : ℕ) →
    count (is_arm_of at place) ts ≡ unfinished (nth (arms_of t.rest) place)

abbrev pub frames_of : Option KeptTask → ℕ
frames_of None = 0
frames_of (Some t) = length t.frames

-- a background task stands in the background of a frame that its parent has
abbrev pub DepthFits : List KeptTask → KeptTask → Type 0
DepthFits ts t = (p d : ℕ) → t.parent ≡ Some p → t.role ≡ Behind d → d < frames_of (nth ts p)

-- where a sibling of this role may stand later
abbrev pub MayFollow : Role → Role → Type 0
MayFollow (Behind d) (Behind e) = d ≤ e
MayFollow (Arm place) (Behind e) = ⊥
MayFollow first later = Unit {0}

-- among the children of one task the depths do not fall, and the arms stand behind the others
abbrev pub InOrder : KeptTask → KeptTask → Type 0
InOrder t u = (p : ℕ) → t.parent ≡ Some p → u.parent ≡ Some p → MayFollow t.role u.role

abbrev pub frames_in : List KeptTask → ℕ
frames_in [] = 0
frames_in (t ∷ ts) = length t.frames + frames_in ts

-- what is kept fits the code
pub record Fits (c : Code) (s : Kept) : Type 0 where
  -- numbers
  pub steps : s.left + s.spent ≤ MOST_STEPS
  pub now : s.now ≤ MOST_NOW
  pub next : s.next ≤ s.spent
  pub bytes : s.bytes ≤ MOST_TRACE_BYTES
  pub lines : s.lines ≤ s.bytes
  pub few_entries : length s.spawned ≤ s.spent
  pub few_tasks : length s.tasks ≤ s.spent
  -- values and cells
  pub cells : StoreBelongs c.classes s.cells
  pub slots : Each (λ (x : Cell). ValuesFit (length s.spawned) x.slots) s.cells
  pub weight : store_weight s.cells ≤ MOST_STORE_WEIGHT
  pub spawned : Each (GivenFits (length s.spawned)) s.spawned
  -- frames, tasks and waits
  pub tasks : Each (TaskFits c s) s.tasks
  pub waits : AreDistinct (waits_in s.tasks)
  -- the whole list
  pub parents : EachAt ParentBefore 0 s.tasks
  pub main : count (is_root None) s.tasks ≤ 1
  pub roots : EachAt (HasRoot s.tasks) 0 s.spawned
  pub arms : EachAt (ArmsRun s.tasks) 0 s.tasks
  pub depths : Each (DepthFits s.tasks) s.tasks
  pub order : EachTwo InOrder s.tasks
  pub few_frames : frames_in s.tasks ≤ suc s.spent
