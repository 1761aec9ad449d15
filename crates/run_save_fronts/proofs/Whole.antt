-- The code, the numbers and all parts of a front, and the rules on the whole list.
use Rattle.std.proofs.Common.{◌≡◌, ℕ, ◌+◌, ◌-◌, ◌≤◌, eqb, List, [], ◌∷◌, ◌++◌, length, Option, Some, None}
use Rattle.std.proofs.Common.{Result, Ok, Err, arith, length-append}
use Rattle.verse_base.specs.declared.limits.TheConstants.{MOST_TRACE_BYTES}
use Rattle.verse_code.specs.declared.codes.Code.{Code}
use Rattle.verse_image.specs.declared.faults.Flaw.{Flaw}
use Rattle.verse_image.specs.Reading.{◌>>=◌, flaw, image_at, letter_at, mark_at}
use Rattle.verse_base.specs.declared.limits.TheConstants.{MOST_STEPS, MOST_NOW}
use Rattle.run_save_shots.specs.Kept.{Kept}
use Rattle.run_save_format.specs.Format.{mark}
use Rattle.run_save_format.specs.Reading.{Found, code_at, coded, ended, is_written, numbers_at, parts_found_at}
use Rattle.run_save_format.specs.Whole.{broken, broken_cell, broken_entry, broken_task, left_at, or_else, run_at, whole}
use Rattle.run_save_format.proofs.Lefts.{AllLeft, IfLeft, or_left, some_left}
use Rattle.run_save_fronts.proofs.Staying.{Place, at_first, Stays, reads, ends, fails, no_code, breaks, stays_then, stays_if, Local}
use Rattle.run_save_fronts.proofs.Numbers.{wide_stays, most_stays, piece_stays}
use Rattle.run_save_fronts.proofs.Stores.{cells_stay, spawned_stays}
use Rattle.run_save_fronts.proofs.Tasks.{tasks_stay}

record PartsLeft (most : ℕ) (m : Found) : Type 0 where
  cells : AllLeft most m.cell_lefts
  entries : AllLeft most m.entry_lefts
  tasks : AllLeft most m.task_lefts

broken_left : (most : ℕ) (m : Found) → PartsLeft most m → IfLeft most (broken m)
broken_left most m p =
    let s = m.kept in
    let cell = broken_cell (length s.spawned) 0 s.cells in
    let entry = broken_entry s.tasks 0 s.spawned in
    let task = broken_task m.code s.spent s.tasks [] 0 s.tasks in
    or_left most (left_at m.cell_lefts cell) (or_else (left_at m.entry_lefts entry) (left_at m.task_lefts task))
    (some_left most m.cell_lefts cell p.cells)
    (or_left most (left_at m.entry_lefts entry) (left_at m.task_lefts task) (some_left most m.entry_lefts entry p.entries)
    (some_left most m.task_lefts task p.tasks))

module _ {more : List ℕ} {most : ℕ} where
  -- ---- the mark

  letter_stays : (letter : ℕ) {left all : ℕ} → Place more most left all → (bytes : List ℕ) → length bytes ≤ most →
      Stays more most (λ (rest : List ℕ). length rest ≤ most) (λ rest. Ok (rest ++ more)) (letter_at letter left bytes)
      (letter_at letter all (bytes ++ more))
  unfolding letter_at
  letter_stays letter at [] few = ends
  letter_stays letter at (b ∷ rest) few =
      let less : length rest ≤ most = omega arith in stays_if (eqb b letter) (reads less) (fails at)

  letters_stay : (letters : List ℕ) {left all : ℕ} → Place more most left all → (bytes : List ℕ) → length bytes ≤ most →
      Stays more most (λ (rest : List ℕ). length rest ≤ most) (λ rest. Ok (rest ++ more)) (mark_at letters left bytes)
      (mark_at letters all (bytes ++ more))
  letters_stay [] at bytes few = reads few
  letters_stay (letter ∷ letters) at bytes few =
      stays_then _ _ (letter_stays letter at bytes few) (λ rest less. letters_stay letters at rest less)

  mark_stays : (bytes : List ℕ) → length bytes ≤ most →
      Stays more most (λ (rest : List ℕ). length rest ≤ most) (λ rest. Ok (rest ++ more)) (mark_at mark (length bytes) bytes)
      (mark_at mark (length (bytes ++ more)) (bytes ++ more))
  unfolding letter_at
  mark_stays [] few = ends
  mark_stays (b ∷ rest) few = letters_stay mark (at_first (b ∷ rest) (omega arith) few) (b ∷ rest) few

  -- ---- the code and the numbers

  coded_stays : {left all : ℕ} (image : List ℕ) (r : Result Code Flaw) → left ≤ most → all ≡ left + length more →
      Stays more most (λ (c : Code). Unit {0}) (λ (c : Code). Ok c) (coded left image r) (coded all image r)
  coded_stays image (Err f) low same = no_code low same
  coded_stays image (Ok c) low same = stays_if (is_written c image) (reads tt) (no_code low same)

  code_stays : Local more most code_at
  unfolding code_at
  code_stays bytes few =
      stays_then _ _ (wide_stays bytes few)
      (λ n less. piece_stays n.0 n.1
      (λ image behind. coded (length n.1) image (image_at image) >>= λ code. Ok (code, behind))
      (λ image behind. coded (length (n.1 ++ more)) image (image_at image) >>= λ code. Ok (code, behind))
      (λ image behind within. (let low : length behind ≤ most = omega arith in
      stays_then _ _ (coded_stays image (image_at image) less (length-append n.1 more)) (λ code free. reads low))))

  numbers_stay : Local more most numbers_at
  unfolding numbers_at
  numbers_stay bytes few =
      stays_then _ _ (most_stays MOST_STEPS bytes few)
      (λ left less. stays_then _ _ (most_stays (MOST_STEPS - left.0) left.1 less)
      (λ spent less. stays_then _ _ (most_stays MOST_NOW spent.1 less)
      (λ now less. stays_then _ _ (most_stays spent.0 now.1 less)
      (λ next less. stays_then _ _ (most_stays MOST_TRACE_BYTES next.1 less)
      (λ printed less. stays_then _ _ (most_stays printed.0 printed.1 less)
      (λ lines less. reads less))))))

-- ---- all parts

-- behind a front of which all is read another byte stands where all are read
abbrev Behind : {A B : Type 0} → List ℕ → A → Result B Flaw
Behind more x = Err (flaw 6 (length more))

module _ {b : ℕ} {more : List ℕ} {most : ℕ} where
  ended_stays : (m n : Found) (rest : List ℕ) → PartsLeft most m → length rest ≤ most →
      Stays (b ∷ more) most (PartsLeft most) (Behind (b ∷ more)) (ended m rest) (ended n (rest ++ b ∷ more))
  ended_stays m n [] p few = reads p
  ended_stays m n (other ∷ rest) p few = fails (at_first (other ∷ rest) (omega arith) few)

  found_stays : (bytes : List ℕ) → length bytes ≤ most →
      Stays (b ∷ more) most (PartsLeft most) (Behind (b ∷ more)) (parts_found_at bytes) (parts_found_at (bytes ++ b ∷ more))
  unfolding parts_found_at
  found_stays bytes few =
      stays_then _ _ (mark_stays bytes few)
      (λ behind less. stays_then _ _ (code_stays behind less)
      (λ code less. stays_then _ _ (numbers_stay code.1 less)
      (λ ns less. stays_then _ _ (cells_stay code.0.classes ns.1 less)
      (λ cells p. stays_then _ _ (spawned_stays ns.0.spent cells.1 p.1)
      (λ spawned q. stays_then _ _
      (tasks_stay (record { code = code.0; numbers = ns.0; cells = cells.0.0; spawned = spawned.0.0 }) spawned.1 q.1)
      (λ tasks r. ended_stays _ _ tasks.1 (record { cells = p.0; entries = q.0; tasks = r.0 }) r.1))))))

  -- ---- the rules on the whole list

  whole_stays : (m : Found) (o : Option ℕ) → IfLeft most o →
      Stays (b ∷ more) most (λ (x : Code × Kept). Unit {0}) (Behind {B = Code × Kept} (b ∷ more)) (whole m o)
      (Err (flaw 6 (length (b ∷ more))))
  whole_stays m None low = reads tt
  whole_stays m (Some left) low = breaks low

  pub run_stays : (bytes : List ℕ) → length bytes ≤ most →
      Stays (b ∷ more) most (λ (x : Code × Kept). Unit {0}) (Behind {B = Code × Kept} (b ∷ more)) (run_at bytes)
      (run_at (bytes ++ b ∷ more))
  unfolding run_at
  run_stays bytes few = stays_then _ _ (found_stays bytes few) (λ m p. whole_stays m (broken m) (broken_left most m p))
