-- A code that is read is valid, and what is kept fits it.
use Rattle.std.proofs.Common.{◌≡◌, ℕ, zero, suc, ◌+◌, ◌-◌, ◌<◌, ◌≤◌, Bool, true, false, cond, ltb, eqb, ◌&&◌, ◌||◌, List, [], ◌∷◌, ◌++◌}
use Rattle.std.proofs.Common.{length, drop, take, Option, Some, None, slice_get, get_or, Result, Ok, Err, refl, sym, ap, subst, ◌∙◌, arith}
use Rattle.verse_image.specs.declared.faults.Flaw.{Flaw}
use Rattle.verse_image.specs.Numbers.{IsBytes}
use Rattle.verse_image.specs.Reading.{◌>>=◌, Reader, flaw, byte_at, image_at, letter_at, mark_at}
use Rattle.verse_image.proofs.ImageLaws.{image_take}
use Rattle.verse_image.proofs.NumberLaws.{rest_bytes}
use Rattle.verse_base.specs.declared.limits.TheConstants.{MOST_TRACE_BYTES}
use Rattle.verse_code.specs.declared.codes.Code.{Code}
use Rattle.verse_code.specs.Validity.{Valid}
use Rattle.verse_value.specs.Val.{Val}
use Rattle.verse_value.specs.Store.{Cell, Store}
use Rattle.verse_meaning_state.specs.State.{Given}
use Rattle.verse_meaning_state.specs.Waits.{Cause, till, never, done, heard}
use Rattle.verse_base.specs.declared.limits.TheConstants.{MOST_STEPS, MOST_NOW}
use Rattle.verse_image.proofs.TableLaws.{bytes_drop}
use Rattle.run_save_shots.specs.Lists.{Each}
use Rattle.run_save_shots.specs.Kept.{KeptRest, leaf, group, KeptTask, Kept}
use Rattle.run_save_shots.specs.Fitting.{CauseFits, Fits, RestFits, Stand, TaskFits, stand_at, task_stand, top_place}
use Rattle.run_save_format.specs.declared.weights.Numbers.{Numbers}
use Rattle.run_save_format.specs.Format.{mark, saved_word}
use Rattle.run_save_format.specs.Values.{each_at, number_in, wide_at}
use Rattle.run_save_format.specs.Reading.{Found, Known, at_most, cells_at, code_at, coded, ended, is_written, kept_of, noted_at, numbers_at}
use Rattle.run_save_format.specs.Reading.{parts_found_at, spawned_at, task_at, tasks_at}
use Rattle.run_save_format.specs.Whole.{behind_word, broken, broken_cell, broken_entry, broken_task, file_at, left_at}
use Rattle.run_save_format.specs.Whole.{or_else, run_at, start_at, whole}
use Rattle.run_save_reads.specs.Reads.{ReadRunFits}
use Rattle.run_save_reads.proofs.Meeting.{Meets, meets_then, meets_if, meets_else, meets_is, meets_of, And, Reads}
use Rattle.run_save_reads.proofs.Meeting.{Steps, reads_each}
use Rattle.run_save_reads.proofs.Meeting.{reads_in, reads_wide}
use Rattle.run_save_reads.proofs.Stores.{NotedRead, SpawnedRead, StoreRead, reads_cells, reads_noted, reads_spawned, steps_noted}
use Rattle.run_save_reads.proofs.Tasks.{RestFound, TaskRead, reads_task, waits_apart}
use Rattle.run_save_reads.proofs.Together.{AllStand, all_stand, both_none, cells_fit, entries_rooted, no_cell_broken}
use Rattle.run_save_reads.proofs.Together.{no_entry_broken, no_task_broken}
use Rattle.run_save_reads.proofs.Orders.{ArmsMayStand, all_arms_run, all_in_order, children_stand, depths_fit}
use Rattle.run_save_reads.proofs.Orders.{frames_few, groups_stand, main_once}
use Rattle.run_save_reads.proofs.Orders.{parents_before}

-- ---- the mark and the code

letter_bytes : (letter left : ℕ) (bytes : List ℕ) → IsBytes bytes → Meets IsBytes (letter_at letter left bytes)
unfolding letter_at
letter_bytes letter left [] b = tt
letter_bytes letter left (x ∷ bytes) b = meets_if IsBytes (eqb x letter) (Ok bytes) (flaw 1 left) (λ t. rest_bytes x bytes b)

mark_bytes : (letters : List ℕ) (left : ℕ) (bytes : List ℕ) → IsBytes bytes → Meets IsBytes (mark_at letters left bytes)
mark_bytes [] left bytes b = b
mark_bytes (letter ∷ letters) left bytes b =
    meets_then IsBytes IsBytes (letter_at letter left bytes) (mark_at letters left) (letter_bytes letter left bytes b)
    (λ rest p. mark_bytes letters left rest p)

pub take_bytes : (n : ℕ) (bytes : List ℕ) → IsBytes bytes → IsBytes (take n bytes)
take_bytes zero bytes b i = omega arith
take_bytes (suc n) [] b i = omega arith
take_bytes (suc n) (x ∷ bytes) b zero = b 0
take_bytes (suc n) (x ∷ bytes) b (suc i) = take_bytes n bytes (rest_bytes x bytes b) i

code_valid : (left : ℕ) (image : List ℕ) (r : Result Code Flaw) → IsBytes image → image_at image ≡ r → Meets Valid (coded left image r)
code_valid left image (Err f) b e = tt
code_valid left image (Ok code) b e =
    meets_if Valid (is_written code image) (Ok code) (flaw 2 left) (λ t. (image_take image code b e).1.valid)

reads_code : Reads Valid code_at
unfolding code_at
reads_code bytes b =
    meets_then (And (λ (n : ℕ). Unit {0})) (And Valid) (wide_at bytes)
    (λ n. cond (ltb (length n.1) n.0) (Err (flaw 3 0))
    (coded (length n.1) (take n.0 n.1) (image_at (take n.0 n.1)) >>= λ code. Ok (code, drop n.0 n.1))) (reads_wide bytes b)
    (λ n p. meets_else (And Valid) (ltb (length n.1) n.0) (flaw 3 0)
    (coded (length n.1) (take n.0 n.1) (image_at (take n.0 n.1)) >>= λ code. Ok (code, drop n.0 n.1))
    (λ f. meets_then Valid (And Valid) (coded (length n.1) (take n.0 n.1) (image_at (take n.0 n.1))) (λ code. Ok (code, drop n.0 n.1))
    (code_valid (length n.1) (take n.0 n.1) (image_at (take n.0 n.1)) (take_bytes n.0 n.1 p.1) refl)
    (λ code q. (q, bytes_drop n.0 n.1 p.1))))

-- ---- the numbers

pub record NumbersRead (n : Numbers) : Type 0 where
  pub steps : n.left + n.spent ≤ MOST_STEPS
  pub now : n.now ≤ MOST_NOW
  pub next : n.next ≤ n.spent
  pub bytes : n.bytes ≤ MOST_TRACE_BYTES
  pub lines : n.lines ≤ n.bytes

sum_within : (a b most : ℕ) → a ≤ most → b ≤ most - a → a + b ≤ most
sum_within a b most p q = omega arith

reads_most : (most : ℕ) → Reads (λ n. (0 ≤ n) × (n ≤ most)) (at_most most)
reads_most most = reads_in 5 0 most

reads_numbers : Reads NumbersRead numbers_at
unfolding numbers_at
reads_numbers bytes b =
    meets_then (And (λ n. (0 ≤ n) × (n ≤ MOST_STEPS))) (And NumbersRead) (at_most MOST_STEPS bytes)
    (λ left. at_most (MOST_STEPS - left.0) left.1 >>= λ spent. at_most MOST_NOW spent.1 >>= λ now. at_most spent.0 now.1 >>= λ next.
    at_most MOST_TRACE_BYTES next.1 >>= λ printed. at_most printed.0 printed.1 >>= λ lines.
    Ok (record { left = left.0; spent = spent.0; now = now.0; next = next.0; bytes = printed.0; lines = lines.0 }, lines.1))
    (reads_most MOST_STEPS bytes b)
    (λ left p. meets_then (And (λ n. (0 ≤ n) × (n ≤ MOST_STEPS - left.0))) (And NumbersRead) (at_most (MOST_STEPS - left.0) left.1)
    (λ spent. at_most MOST_NOW spent.1 >>= λ now. at_most spent.0 now.1 >>= λ next.
    at_most MOST_TRACE_BYTES next.1 >>= λ printed. at_most printed.0 printed.1 >>= λ lines.
    Ok (record { left = left.0; spent = spent.0; now = now.0; next = next.0; bytes = printed.0; lines = lines.0 }, lines.1))
    (reads_most (MOST_STEPS - left.0) left.1 p.1)
    (λ spent q. meets_then (And (λ n. (0 ≤ n) × (n ≤ MOST_NOW))) (And NumbersRead) (at_most MOST_NOW spent.1)
    (λ now. at_most spent.0 now.1 >>= λ next. at_most MOST_TRACE_BYTES next.1 >>= λ printed. at_most printed.0 printed.1 >>= λ lines.
    Ok (record { left = left.0; spent = spent.0; now = now.0; next = next.0; bytes = printed.0; lines = lines.0 }, lines.1))
    (reads_most MOST_NOW spent.1 q.1)
    (λ now r. meets_then (And (λ n. (0 ≤ n) × (n ≤ spent.0))) (And NumbersRead) (at_most spent.0 now.1)
    (λ next. at_most MOST_TRACE_BYTES next.1 >>= λ printed. at_most printed.0 printed.1 >>= λ lines.
    Ok (record { left = left.0; spent = spent.0; now = now.0; next = next.0; bytes = printed.0; lines = lines.0 }, lines.1))
    (reads_most spent.0 now.1 r.1)
    (λ next u. meets_then (And (λ n. (0 ≤ n) × (n ≤ MOST_TRACE_BYTES))) (And NumbersRead) (at_most MOST_TRACE_BYTES next.1)
    (λ printed. at_most printed.0 printed.1 >>= λ lines.
    Ok (record { left = left.0; spent = spent.0; now = now.0; next = next.0; bytes = printed.0; lines = lines.0 }, lines.1))
    (reads_most MOST_TRACE_BYTES next.1 u.1)
    (λ printed v. meets_then (And (λ n. (0 ≤ n) × (n ≤ printed.0))) (And NumbersRead) (at_most printed.0 printed.1)
    (λ lines. Ok (record { left = left.0; spent = spent.0; now = now.0; next = next.0; bytes = printed.0; lines = lines.0 }, lines.1))
    (reads_most printed.0 printed.1 v.1)
    (λ lines z. (
      record {
        steps = sum_within left.0 spent.0 MOST_STEPS p.0.1 q.0.1;
        now = r.0.1;
        next = u.0.1;
        bytes = v.0.1;
        lines = z.0.1;
      },
      z.1,
    )))))))

-- ---- the tasks

pub record TasksRead (x : Known) (y : List KeptTask × List ℕ) : Type 0 where
  pub waits : List ℕ
  pub steps : Steps (TaskRead x) [] y.0 waits
  pub few : length y.0 ≤ x.numbers.spent
  pub lefts : length y.1 ≡ length y.0

reads_tasks : (x : Known) → Reads (TasksRead x) (tasks_at x)
unfolding tasks_at
reads_tasks x bytes b =
    meets_then (And (λ n. (0 ≤ n) × (n ≤ x.numbers.spent))) (And (TasksRead x)) (at_most x.numbers.spent bytes)
    (λ n. each_at (noted_at (task_at x)) n.0 ([], []) n.1 >>= λ tasks. Ok ((tasks.0.0, tasks.0.1.1), tasks.1))
    (reads_most x.numbers.spent bytes b)
    (λ n p. meets_then (And (λ y. (length y.0 ≡ n.0) × Steps (NotedRead (TaskRead x)) ([], []) y.0 y.1)) (And (TasksRead x))
    (each_at (noted_at (task_at x)) n.0 ([], []) n.1) (λ tasks. Ok ((tasks.0.0, tasks.0.1.1), tasks.1))
    (reads_each (NotedRead (TaskRead x)) (noted_at (task_at x)) (reads_noted (TaskRead x) (task_at x) (reads_task x)) n.0 ([], []) n.1 p.1)
    (λ tasks q. (let noted = steps_noted (TaskRead x) tasks.0.0 ([], []) tasks.0.1 q.0.1 in
    let low = p.0.1 in
    let long = q.0.0 in
    let lefts = noted.1 in (
      record { waits = tasks.0.1.0; steps = noted.0; few = omega arith; lefts = omega arith },
      q.1,
    ))))

-- ---- all of it

abbrev pub known_in : Found → Known
known_in m = record {
  code = m.code;
  numbers =
      record {
        left = m.kept.left;
        spent = m.kept.spent;
        now = m.kept.now;
        next = m.kept.next;
        bytes = m.kept.bytes;
        lines = m.kept.lines;
      };
  cells = m.kept.cells;
  spawned = m.kept.spawned;
}

pub record FoundRead (m : Found) : Type 0 where
  pub valid : Valid m.code
  pub numbers : NumbersRead (known_in m).numbers
  pub cells : StoreRead m.code.classes (m.kept.cells, m.cell_lefts)
  pub spawned : SpawnedRead m.kept.spent (m.kept.spawned, m.entry_lefts)
  pub tasks : TasksRead (known_in m) (m.kept.tasks, m.task_lefts)

rest_fits : (m : Found) (t : KeptTask) (ws : List ℕ) (r : KeptRest) → t.rest ≡ r → ArmsMayStand m.code m.kept.spent m.kept.tasks t →
    RestFound (known_in m) (task_stand m.code t) ws r → RestFits m.kept (task_stand m.code t) r
rest_fits m t ws (leaf n (till moment)) e a p = (p.0, p.1)
rest_fits m t ws (leaf n never) e a p = (p.0, tt)
rest_fits m t ws (leaf n (done entry)) e a p = (p.0, p.1)
rest_fits m t ws (leaf n (heard event)) e a p = (p.0, p.1)
rest_fits m t ws (group arms) e a p = (p, a arms e)

tasks_fit : (m : Found) (ts : List KeptTask) (ws vs : List ℕ) → Steps (TaskRead (known_in m)) ws ts vs →
    Each (ArmsMayStand m.code m.kept.spent m.kept.tasks) ts → Each (TaskFits m.code m.kept) ts
tasks_fit m [] ws vs p a = tt
tasks_fit m (t ∷ ts) ws vs (us, p, q) a = (
  record {
    role = p.role;
    root = p.root;
    few = p.few;
    suit = p.suit;
    frames = p.frames;
    rest = rest_fits m t ws t.rest refl a.0 p.rest;
  },
  tasks_fit m ts us vs q a.1,
)

found_fits : (m : Found) → FoundRead m → broken m ≡ None → Fits m.code m.kept
found_fits m r e =
    let s = m.kept in
    let one = both_none (left_at m.cell_lefts (broken_cell (length s.spawned) 0 s.cells))
    (or_else (left_at m.entry_lefts (broken_entry s.tasks 0 s.spawned))
    (left_at m.task_lefts (broken_task m.code s.spent s.tasks [] 0 s.tasks))) e in
    let two = both_none (left_at m.entry_lefts (broken_entry s.tasks 0 s.spawned))
    (left_at m.task_lefts (broken_task m.code s.spent s.tasks [] 0 s.tasks)) one.1 in
    let cell = no_cell_broken (length s.spawned) s.cells m.cell_lefts r.cells.lefts one.0 in
    let entry = no_entry_broken s.tasks s.spawned m.entry_lefts r.spawned.lefts two.0 in
    let task = no_task_broken m.code s.spent s.tasks m.task_lefts r.tasks.lefts two.1 in
    let stand : AllStand m.code s.spent s.tasks [] 0 s.tasks = all_stand m.code s.spent s.tasks [] 0 s.tasks task in
    let children = children_stand m.code s.spent s.tasks [] 0 s.tasks stand in
    record {
      steps = r.numbers.steps;
      now = r.numbers.now;
      next = r.numbers.next;
      bytes = r.numbers.bytes;
      lines = r.numbers.lines;
      few_entries = r.spawned.few;
      few_tasks = r.tasks.few;
      cells = r.cells.belongs;
      slots = cells_fit (length s.spawned) 0 s.cells r.cells.slots cell;
      weight = r.cells.weight;
      spawned = r.spawned.fit;
      tasks = tasks_fit m s.tasks [] r.tasks.waits r.tasks.steps (groups_stand m.code s.spent s.tasks [] 0 s.tasks stand);
      waits = waits_apart (known_in m) s.tasks [] r.tasks.waits tt r.tasks.steps;
      parents = parents_before m.code s.spent s.tasks [] 0 s.tasks stand;
      main = main_once m.code s.spent s.tasks [] 0 s.tasks stand (omega arith);
      roots = entries_rooted s.tasks 0 s.spawned entry;
      arms = all_arms_run m.code s.spent s.tasks children [] 0 s.tasks refl stand;
      depths = depths_fit m.code s.spent s.tasks s.tasks children;
      order = all_in_order m.code s.spent s.tasks [] 0 s.tasks stand tt;
      few_frames = frames_few m.code s.spent s.tasks [] 0 s.tasks stand refl (omega arith);
    }

ended_read : (m : Found) (bytes : List ℕ) → FoundRead m → Meets FoundRead (ended m bytes)
ended_read m [] p = p
ended_read m (b ∷ bytes) p = tt

parts_read : (bytes : List ℕ) → IsBytes bytes → Meets FoundRead (parts_found_at bytes)
unfolding parts_found_at
parts_read bytes b =
    meets_then IsBytes FoundRead (mark_at mark (length bytes) bytes)
    (λ behind. code_at behind >>= λ code. numbers_at code.1 >>= λ numbers. cells_at code.0.classes numbers.1 >>= λ cells.
    spawned_at numbers.0.spent cells.1 >>= λ spawned.
    tasks_at (record { code = code.0; numbers = numbers.0; cells = cells.0.0; spawned = spawned.0.0 }) spawned.1 >>= λ tasks.
    ended
    (record {
      code = code.0;
      kept = kept_of numbers.0 cells.0.0 spawned.0.0 tasks.0.0;
      cell_lefts = cells.0.1;
      entry_lefts = spawned.0.1;
      task_lefts = tasks.0.1;
    }) tasks.1)
    (mark_bytes mark (length bytes) bytes b)
    (λ behind o. meets_then (And Valid) FoundRead (code_at behind)
    (λ code. numbers_at code.1 >>= λ numbers. cells_at code.0.classes numbers.1 >>= λ cells.
    spawned_at numbers.0.spent cells.1 >>= λ spawned.
    tasks_at (record { code = code.0; numbers = numbers.0; cells = cells.0.0; spawned = spawned.0.0 }) spawned.1 >>= λ tasks.
    ended
    (record {
      code = code.0;
      kept = kept_of numbers.0 cells.0.0 spawned.0.0 tasks.0.0;
      cell_lefts = cells.0.1;
      entry_lefts = spawned.0.1;
      task_lefts = tasks.0.1;
    }) tasks.1)
    (reads_code behind o)
    (λ code p. meets_then (And NumbersRead) FoundRead (numbers_at code.1)
    (λ numbers. cells_at code.0.classes numbers.1 >>= λ cells. spawned_at numbers.0.spent cells.1 >>= λ spawned.
    tasks_at (record { code = code.0; numbers = numbers.0; cells = cells.0.0; spawned = spawned.0.0 }) spawned.1 >>= λ tasks.
    ended
    (record {
      code = code.0;
      kept = kept_of numbers.0 cells.0.0 spawned.0.0 tasks.0.0;
      cell_lefts = cells.0.1;
      entry_lefts = spawned.0.1;
      task_lefts = tasks.0.1;
    }) tasks.1)
    (reads_numbers code.1 p.1)
    (λ numbers q. meets_then (And (StoreRead code.0.classes)) FoundRead (cells_at code.0.classes numbers.1)
    (λ cells. spawned_at numbers.0.spent cells.1 >>= λ spawned.
    tasks_at (record { code = code.0; numbers = numbers.0; cells = cells.0.0; spawned = spawned.0.0 }) spawned.1 >>= λ tasks.
    ended
    (record {
      code = code.0;
      kept = kept_of numbers.0 cells.0.0 spawned.0.0 tasks.0.0;
      cell_lefts = cells.0.1;
      entry_lefts = spawned.0.1;
      task_lefts = tasks.0.1;
    }) tasks.1)
    (reads_cells code.0.classes numbers.1 q.1)
    (λ cells r. meets_then (And (SpawnedRead numbers.0.spent)) FoundRead (spawned_at numbers.0.spent cells.1)
    (λ spawned. tasks_at (record { code = code.0; numbers = numbers.0; cells = cells.0.0; spawned = spawned.0.0 }) spawned.1 >>= λ tasks.
    ended
    (record {
      code = code.0;
      kept = kept_of numbers.0 cells.0.0 spawned.0.0 tasks.0.0;
      cell_lefts = cells.0.1;
      entry_lefts = spawned.0.1;
      task_lefts = tasks.0.1;
    }) tasks.1)
    (reads_spawned numbers.0.spent cells.1 r.1)
    (λ spawned u. (let x : Known = record { code = code.0; numbers = numbers.0; cells = cells.0.0; spawned = spawned.0.0 } in
    meets_then (And (TasksRead x)) FoundRead (tasks_at x spawned.1)
    (λ tasks. ended
    (record {
      code = code.0;
      kept = kept_of numbers.0 cells.0.0 spawned.0.0 tasks.0.0;
      cell_lefts = cells.0.1;
      entry_lefts = spawned.0.1;
      task_lefts = tasks.0.1;
    }) tasks.1)
    (reads_tasks x spawned.1 u.1)
    (λ tasks v. ended_read
    (record {
      code = code.0;
      kept = kept_of numbers.0 cells.0.0 spawned.0.0 tasks.0.0;
      cell_lefts = cells.0.1;
      entry_lefts = spawned.0.1;
      task_lefts = tasks.0.1;
    }) tasks.1 (record { valid = p.0; numbers = q.0; cells = r.0; spawned = u.0; tasks = v.0 }))))))))

abbrev pub RunFits : Code × Kept → Type 0
RunFits x = Valid x.0 × Fits x.0 x.1

whole_fits : (m : Found) (o : Option ℕ) → FoundRead m → broken m ≡ o → Meets RunFits (whole m o)
whole_fits m None r e = (r.valid, found_fits m r e)
whole_fits m (Some left) r e = tt

run_fits : (bytes : List ℕ) → IsBytes bytes → Meets RunFits (run_at bytes)
unfolding run_at
run_fits bytes b =
    meets_then FoundRead RunFits (parts_found_at bytes) (λ m. whole m (broken m)) (parts_read bytes b)
    (λ m r. whole_fits m (broken m) r refl)

either_bytes : (s t : Bool) (bytes : List ℕ) (p q : Result (List ℕ) Flaw) → IsBytes bytes → Meets IsBytes p → Meets IsBytes q →
    Meets IsBytes (cond s (cond t (Ok bytes) p) q)
either_bytes true true bytes p q a b d = a
either_bytes true false bytes p q a b d = b
either_bytes false t bytes p q a b d = d

start_bytes : (begins is : Bool) (bytes : List ℕ) → IsBytes bytes → Meets IsBytes (start_at begins is bytes)
unfolding start_at
start_bytes begins is [] b = tt
start_bytes begins is (x ∷ bytes) b =
    let rest = rest_bytes x bytes b in
    either_bytes (is || begins && behind_word saved_word (x ∷ bytes)) (eqb x 10) bytes (start_at false true bytes)
    (start_at (eqb x 10) false bytes) rest (start_bytes false true bytes rest) (start_bytes (eqb x 10) false bytes rest)

pub read_run_fits : ReadRunFits
unfolding file_at
read_run_fits file c s b e =
    meets_is RunFits (file_at file) (c, s) e
    (meets_then IsBytes RunFits (start_at true false file) run_at (start_bytes true false file b) run_fits)
