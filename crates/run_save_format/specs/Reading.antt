-- Reading a saved run from left to right, up to the first failing place.
use Rattle.std.specs.Prelude.{ℕ, zero, suc, ◌+◌, ◌-◌, ◌==◌, nat_lt, Bool, true, false, not, ◌&&◌}
use Rattle.std.specs.Prelude.{List, [], ◌∷◌, ◌++◌, length, take}
use Rattle.std.specs.Prelude.{drop, Option, Some, None, slice_get, Result, Ok, Err, if◌then◌else◌}
use Rattle.task_tree.specs.declared.tasks.Role.{Role}
use Rattle.task_tree.specs.declared.tasks.Role.TheVariants.{Root, Arm, Behind}
use Rattle.verse_base.specs.declared.limits.TheConstants.{MOST_TRACE_BYTES}
use Rattle.verse_code.specs.declared.codes.Class.{Class}
use Rattle.verse_code.specs.declared.codes.Code.{Code}
use Rattle.verse_image.specs.declared.faults.Flaw.{Flaw}
use Rattle.verse_image.specs.Format.{version_of}
use Rattle.verse_image.specs.Reading.{◌>>=◌, Reader, flaw, mark_at, image_at}
use Rattle.verse_value.specs.Val.{Val}
use Rattle.verse_value.specs.declared.runs.CellKind.{CellKind}
use Rattle.verse_value.specs.declared.runs.CellKind.TheVariants as cell
use Rattle.verse_value.specs.Store.{Cell, Store}
use Rattle.verse_meaning_state.specs.State.{Given}
use Rattle.verse_meaning_state.specs.Waits.{Cause, till, never, done, heard}
use Rattle.verse_base.specs.declared.limits.TheConstants.{MOST_STEPS, MOST_NOW, MOST_MOMENT}
use Rattle.run_save_shots.specs.Kept.{KeptFrame, KeptRest, leaf, group, KeptTask, Kept}
use Rattle.run_save_shots.specs.Fitting.{Stand, calls, sleeps, stays, awaits_task, awaits_event}
use Rattle.run_save_shots.specs.Fitting.{gathers, goes_on, stand_at, is_defer}
use Rattle.run_save_shots.specs.Fitting.{top_place}
use Rattle.run_save_format.specs.declared.forms.CellForm.{CellForm}
use Rattle.run_save_format.specs.declared.forms.CellForm.TheVariants as of_cell
use Rattle.run_save_format.specs.declared.weights.Where.TheVariants as place
use Rattle.run_save_format.specs.declared.weights.Numbers.{Numbers}
use Rattle.run_save_format.specs.Format.{mark}
use Rattle.run_save_format.specs.Values.{wide_at, number_in, flag_at, small_at, small_where}
use Rattle.run_save_format.specs.Values.{optional_at, choice_at, each_at, weighed}
use Rattle.run_save_format.specs.Values.{value_at, values_at}

-- ---- lists

-- so many, one after the other
unfoldable pub many_at : {A : Type 0} → Reader A → ℕ → Reader (List A)
many_at one zero bytes = Ok ([], bytes)
many_at one (suc n) bytes = do
  first ← one bytes
  others ← many_at one n first.1
  Ok (first.0 ∷ others.0, others.1)

-- with how many bytes were left at the first one of each
unfoldable pub noted_at : {A S : Type 0} → (S → Reader (A × S)) → S × List ℕ →
    Reader (A × (S × List ℕ))
noted_at one s bytes = one s.0 bytes >>= λ x. Ok ((x.0.0, (x.0.1, s.1 ++ length bytes ∷ [])), x.1)

-- what is there, or nothing
unfoldable pub maybe_at : {A : Type 0} → Reader A → Reader (Option A)
maybe_at one bytes = flag_at bytes >>= λ n. if n.0 == 0 then Ok (None, n.1)
    else (one n.1 >>= λ x. Ok (Some x.0, x.1))

-- outside of cells
unfoldable pub free_value_at : (entries : ℕ) → Reader Val
free_value_at entries bytes = value_at (place.Among entries) 0 bytes >>= λ v. Ok (v.0.0, v.1)

unfoldable pub free_values_at : (entries : ℕ) → Reader (List Val)
free_values_at entries bytes = values_at (place.Among entries) 0 bytes >>= λ vs. Ok (vs.0.0, vs.1)

-- ---- the code and the numbers

-- it is the image that is written: of the first version that has all operations
abbrev pub is_written : Code → List ℕ → Bool
is_written code image = written (slice_get image 4) where
  written : Option ℕ → Bool
  written None = false
  written (Some version) = version == version_of code

abbrev pub coded : (left : ℕ) → List ℕ → Result Code Flaw → Result Code Flaw
coded left image (Err f) = Err (flaw 2 left)
coded left image (Ok code) = if is_written code image then Ok code else Err (flaw 2 left)

unfoldable pub code_at : Reader Code
code_at bytes = do
  n ← wide_at bytes
  if nat_lt (length n.1) n.0 then Err (flaw 3 0) else
      (coded (length n.1) (take n.0 n.1) (image_at (take n.0 n.1)) >>= λ code. Ok
      (code, drop n.0 n.1))

-- a number that breaks a rule where it is above the most
abbrev pub at_most : ℕ → Reader ℕ
at_most = number_in 5 0

unfoldable pub numbers_at : Reader Numbers
numbers_at bytes = do
  left ← at_most MOST_STEPS bytes
  spent ← at_most (MOST_STEPS - left.0) left.1
  now ← at_most MOST_NOW spent.1
  next ← at_most spent.0 now.1
  printed ← at_most MOST_TRACE_BYTES next.1
  lines ← at_most printed.0 printed.1
  Ok (
    record {
      left = left.0;
      spent = spent.0;
      now = now.0;
      next = next.0;
      bytes = printed.0;
      lines = lines.0;
    },
    lines.1,
  )

-- ---- cells and spawned entries

abbrev pub cell_forms : List CellForm
cell_forms = of_cell.Var ∷ of_cell.Event ∷ of_cell.Object ∷ []

-- what the cell is, and how many slots it has
abbrev pub object_of : (left class : ℕ) → Option Class → List ℕ →
    Result ((CellKind × ℕ) × List ℕ) Flaw
object_of left class None bytes = Err (flaw 5 left)
object_of left class (Some c) bytes = Ok ((cell.Object class, c.slots), bytes)

unfoldable pub kind_form_at : List Class → CellForm → Reader (CellKind × ℕ)
kind_form_at classes of_cell.Var bytes = Ok ((cell.Var, 1), bytes)
kind_form_at classes of_cell.Event bytes = Ok ((cell.Event, 0), bytes)
kind_form_at classes of_cell.Object bytes =
    small_at bytes >>= λ n. object_of (length bytes) n.0 (slice_get classes n.0) n.1

unfoldable pub kind_at : List Class → Reader (CellKind × ℕ)
kind_at classes bytes = choice_at cell_forms bytes >>= λ form. kind_form_at classes form.0 form.1

-- with what all cells weigh so far
unfoldable pub cell_at : List Class → ℕ → Reader (Cell × ℕ)
cell_at classes cells bytes = do
  kind ← kind_at classes bytes
  load ← weighed (place.Cell (length bytes)) (length bytes) 1 (record { value = 0; cells = cells })
  n ← number_in 5 kind.0.1 kind.0.1 kind.1
  slots ← each_at (value_at (place.Cell (length bytes))) n.0 load.cells n.1
  Ok ((record { kind = kind.0.0; slots = slots.0.0 }, slots.0.1), slots.1)

-- and with how many bytes were left at each
unfoldable pub cells_at : List Class → Reader (List Cell × List ℕ)
cells_at classes bytes = do
  n ← wide_at bytes
  cells ← each_at (noted_at (cell_at classes)) n.0 (0, []) n.1
  Ok ((cells.0.0, cells.0.1.1), cells.1)

unfoldable pub given_at : (entries : ℕ) → Reader Given
given_at entries bytes = do
  v ← free_value_at entries bytes
  moment ← wide_at v.1
  Ok (record { value = v.0; moment = moment.0 }, moment.1)

unfoldable pub entry_at : (entries : ℕ) → List ℕ → Reader (Option Given × List ℕ)
entry_at entries lefts bytes =
    maybe_at (given_at entries) bytes >>= λ g. Ok ((g.0, lefts ++ length bytes ∷ []), g.1)

unfoldable pub spawned_at : (spent : ℕ) → Reader (List (Option Given) × List ℕ)
spawned_at spent bytes = at_most spent bytes >>= λ n. each_at (entry_at n.0) n.0 [] n.1

-- ---- tasks

-- what tasks are read against
pub record Known : Type 0 where
  pub code : Code
  pub numbers : Numbers
  pub cells : Store
  pub spawned : List (Option Given)

abbrev pub is_block : Code → ℕ → Bool
is_block code zero = false
is_block code (suc at) = is_defer (slice_get code.ops at)

abbrev pub is_call : Stand → Bool
is_call calls = true
is_call stand = false

abbrev pub suspends : Stand → Bool
suspends calls = false
suspends goes_on = false
suspends stand = true

-- lower frames stand at calls, and the top one where a task is suspended
abbrev pub may_stand : (lower : ℕ) → Stand → Bool
may_stand zero stand = suspends stand
may_stand (suc n) stand = is_call stand

abbrev pub is_running : Option (Option Given) → Bool
is_running None = false
is_running (Some None) = true
is_running (Some (Some g)) = false

abbrev pub is_event : Option Cell → Bool
is_event None = false
is_event (Some c) = is_kind c.kind where
  is_kind : CellKind → Bool
  is_kind cell.Event = true
  is_kind kind = false

abbrev pub contains : ℕ → List ℕ → Bool
contains n [] = false
contains n (m ∷ ms) = if n == m then true else contains n ms

-- a number of one of so many forms, which must be this one
unfoldable pub form_at : (forms form : ℕ) → Reader ℕ
form_at forms form bytes = number_in 4 0 (forms - 1) bytes >>= λ n. if n.0 == form then Ok n
    else Err (flaw 5 (length bytes))

-- the form of what is waited for, where the top frame stands; 4 is none
abbrev pub cause_form : Stand → ℕ
cause_form sleeps = 0
cause_form stays = 1
cause_form awaits_task = 2
cause_form awaits_event = 3
cause_form stand = 4

module _ (x : Known) where
  -- where a frame stands above which there are so many
  unfoldable pub place_at : (above : ℕ) → Reader ℕ
  place_at above = small_where (λ n. may_stand above (stand_at x.code n))

  unfoldable pub defers_at : Reader (List ℕ)
  defers_at bytes = wide_at bytes >>= λ n. many_at (small_where (is_block x.code)) n.0 n.1

  unfoldable pub frame_at : (above : ℕ) → Reader KeptFrame
  frame_at above bytes = do
    place ← place_at above bytes
    locals ← free_values_at (length x.spawned) place.1
    stack ← free_values_at (length x.spawned) locals.1
    defers ← defers_at stack.1
    Ok (record { place = place.0; locals = locals.0; stack = stack.0; defers = defers.0 }, defers.1)

  unfoldable pub frames_from : (n : ℕ) → Reader (List KeptFrame)
  frames_from zero bytes = Ok ([], bytes)
  frames_from (suc n) bytes = do
    lowest ← frame_at n bytes
    others ← frames_from n lowest.1
    Ok (lowest.0 ∷ others.0, others.1)

  unfoldable pub frames_at : Reader (List KeptFrame)
  frames_at bytes = number_in 5 1 x.numbers.spent bytes >>= λ n. frames_from n.0 n.1

  -- what is waited for, where the top frame stands
  unfoldable pub cause_of : Stand → Reader Cause
  cause_of sleeps bytes = number_in 5 x.numbers.now MOST_MOMENT bytes >>= λ n. Ok (till n.0, n.1)
  cause_of awaits_task bytes = small_where (λ n. is_running (slice_get x.spawned n)) bytes >>= λ n.
      Ok (done n.0, n.1)
  cause_of awaits_event bytes = small_where (λ n. is_event (slice_get x.cells n)) bytes >>= λ n. Ok
      (heard n.0, n.1)
  cause_of stand bytes = Ok (never, bytes)

  -- a wait's number, which is none of these
  unfoldable pub wait_at : List ℕ → Reader ℕ
  wait_at waits bytes =
      wide_at bytes >>= λ n. if nat_lt n.0 x.numbers.next &&
      not (contains n.0 waits) then Ok n else Err (flaw 5 (length bytes))

  unfoldable pub leaf_at : Stand → List ℕ → Reader (KeptRest × List ℕ)
  leaf_at stand waits bytes = do
    number ← wait_at waits bytes
    form ← form_at 4 (cause_form stand) number.1
    cause ← cause_of stand form.1
    Ok ((leaf number.0 cause.0, waits ++ number.0 ∷ []), cause.1)

  unfoldable pub group_at : (arms : ℕ) → List ℕ → Reader (KeptRest × List ℕ)
  group_at arms waits bytes = do
    n ← number_in 5 arms arms bytes
    values ← many_at (maybe_at (free_value_at (length x.spawned))) n.0 n.1
    Ok ((group values.0, waits), values.1)

  -- what the task waits for, where its top frame stands, and the numbers of all waits so far
  unfoldable pub rest_at : Stand → List ℕ → Reader (KeptRest × List ℕ)
  rest_at (gathers kind arms place) waits bytes = form_at 2 1 bytes >>= λ n. group_at arms waits n.1
  rest_at stand waits bytes = form_at 2 0 bytes >>= λ n. leaf_at stand waits n.1

  abbrev pub is_entry : Option ℕ → Bool
  is_entry None = true
  is_entry (Some entry) = nat_lt entry (length x.spawned)

  unfoldable pub root_at : Reader (Option ℕ)
  root_at bytes = optional_at bytes >>= λ root. if is_entry root.0 then Ok root else Err
      (flaw 5 (length bytes))

  -- without a parent the root, with one the role
  unfoldable pub standing_at : Option ℕ → Reader (Role × Option ℕ)
  standing_at None bytes = root_at bytes >>= λ root. Ok ((Root, root.0), root.1)
  standing_at (Some p) bytes = do
    form ← flag_at bytes
    n ← small_at form.1
    Ok ((if form.0 == 0 then Arm n.0 else Behind n.0, None), n.1)

  unfoldable pub task_at : List ℕ → Reader (KeptTask × List ℕ)
  task_at waits bytes = do
    parent ← optional_at bytes
    standing ← standing_at parent.0 parent.1
    frames ← frames_at standing.1
    rest ← rest_at (stand_at x.code (top_place frames.0)) waits frames.1
    Ok (
      (
        record {
          parent = parent.0;
          role = standing.0.0;
          root = standing.0.1;
          frames = frames.0;
          rest = rest.0.0;
        },
        rest.0.1,
      ),
      rest.1,
    )

  -- with how many bytes were left at each
  unfoldable pub tasks_at : Reader (List KeptTask × List ℕ)
  tasks_at bytes = do
    n ← at_most x.numbers.spent bytes
    tasks ← each_at (noted_at task_at) n.0 ([], []) n.1
    Ok ((tasks.0.0, tasks.0.1.1), tasks.1)

-- ---- all

-- the parts as they were read, and how many bytes were left at each cell, entry and task
pub record Found : Type 0 where
  pub code : Code
  pub kept : Kept
  pub cell_lefts : List ℕ
  pub entry_lefts : List ℕ
  pub task_lefts : List ℕ

abbrev pub kept_of : Numbers → Store → List (Option Given) → List KeptTask → Kept
kept_of n cells spawned tasks = record {
  left = n.left;
  spent = n.spent;
  now = n.now;
  next = n.next;
  bytes = n.bytes;
  lines = n.lines;
  cells = cells;
  spawned = spawned;
  tasks = tasks;
}

-- no bytes are left
abbrev pub ended : Found → List ℕ → Result Found Flaw
ended m [] = Ok m
ended m (b ∷ bytes) = Err (flaw 6 (length (b ∷ bytes)))

unfoldable pub parts_found_at : List ℕ → Result Found Flaw
parts_found_at bytes = do
  behind ← mark_at mark (length bytes) bytes
  code ← code_at behind
  numbers ← numbers_at code.1
  cells ← cells_at code.0.classes numbers.1
  spawned ← spawned_at numbers.0.spent cells.1
  tasks ← tasks_at (record {
    code = code.0;
    numbers = numbers.0;
    cells = cells.0.0;
    spawned =
        spawned.0.0;
  }) spawned.1
  ended
      (record {
        code = code.0;
        kept = kept_of numbers.0 cells.0.0 spawned.0.0 tasks.0.0;
        cell_lefts = cells.0.1;
        entry_lefts = spawned.0.1;
        task_lefts = tasks.0.1;
      }) tasks.1
