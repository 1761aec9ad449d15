-- What is read of a saved run is spelled by its bytes; and so a file has a saved run or a fault.
use Rattle.std.proofs.Common.{◌≡◌, ℕ, ◌-◌, ◌≤◌, true, ltb, eqb, ◌⊎◌, inl, inr, List, [], ◌∷◌, ◌++◌, length}
use Rattle.std.proofs.Common.{take, Option, Some, None}
use Rattle.std.proofs.Common.{Result, Ok, Err, refl, sym, ap, subst, ◌∙◌, arith}
use Rattle.std.proofs.lemmas.Bool.{eqb-true}
use Rattle.verse_base.specs.declared.limits.TheConstants.{MOST_TRACE_BYTES}
use Rattle.verse_code.specs.declared.codes.Code.{Code}
use Rattle.verse_image.specs.declared.faults.Flaw.{Flaw}
use Rattle.verse_image.specs.Format.{Field, byte, plain, Image, version_of}
use Rattle.verse_image.specs.Format as image
use Rattle.verse_image.specs.Numbers.{IsBytes}
use Rattle.verse_image.specs.Reading.{image_at, letter_at, mark_at}
use Rattle.verse_image.proofs.ImageLaws.{image_take}
use Rattle.verse_image.proofs.NumberLaws.{rest_bytes}
use Rattle.verse_base.specs.declared.limits.TheConstants.{MOST_STEPS, MOST_NOW}
use Rattle.run_save_shots.specs.Kept.{Kept}
use Rattle.run_save_format.specs.declared.weights.Numbers.{Numbers}
use Rattle.run_save_format.specs.Faults.{ReadIsSaved, RunOrFault, SavedIsRead}
use Rattle.run_save_format.specs.Format.{mark, wide, imaged, numbers, fields, SavedFile, StandsBehind}
use Rattle.run_save_format.specs.Reading.{Found, code_at, coded, ended, is_written, kept_of, numbers_at, parts_found_at}
use Rattle.run_save_format.specs.Whole.{broken, broken_cell, broken_entry, broken_task, file_at, left_at, or_else, run_at, whole}
use Rattle.run_save_format.proofs.Lefts.{AllLeft, IfLeft, or_left, some_left}
use Rattle.run_save_reads.specs.Reads.{ReadRunFits}
use Rattle.run_save_told.specs.Told.{FoundIsSpelled}
use Rattle.run_save_told.proofs.Telling.{Tells, tells, fails, tells_then, tells_if, tells_as, tells_up}
use Rattle.run_save_told.proofs.Telling.{told_is, fault_is, Within, TellsField}
use Rattle.run_save_told.proofs.Numbers.{tells_wide, tells_most}
use Rattle.run_save_told.proofs.Values.{text_told}
use Rattle.run_save_told.proofs.Stores.{tells_cells, tells_spawned}
use Rattle.run_save_told.proofs.Tasks.{tells_tasks}
use Rattle.run_save_told.proofs.Files.{tells_start, behind_within}
use Rattle.run_save_reads.proofs.Runs.{take_bytes}

-- ---- the mark

abbrev After : ℕ → List ℕ → List ℕ → List ℕ → Type 0
After most text bytes rest = plain text bytes rest × Within most rest

tells_letter : {most : ℕ} (letter left : ℕ) (bytes : List ℕ) → left ≤ most → Within most bytes →
    Tells most (After most (letter ∷ []) bytes) (letter_at letter left bytes)
unfolding letter_at
tells_letter {most = most} letter left [] low b = let none : 0 ≤ most = omega arith in fails none
tells_letter letter left (x ∷ bytes) low b =
    let few = b.few in
    tells_if (eqb x letter) _ _
    (λ t. tells (ap (λ k. k ∷ bytes) (eqb-true x letter t), record { fits = rest_bytes x bytes b.fits; few = omega arith }))
    (λ t. fails low)

tells_mark : {most : ℕ} (letters : List ℕ) (left : ℕ) (bytes : List ℕ) → left ≤ most → Within most bytes →
    Tells most (After most letters bytes) (mark_at letters left bytes)
tells_mark [] left bytes low b = tells (refl, b)
tells_mark (letter ∷ letters) left bytes low b =
    tells_then _ (tells_letter letter left bytes low b)
    (λ behind p. tells_as (λ rest q. (p.0 ∙ ap (λ l. letter ∷ l) q.0, q.1)) (tells_mark letters left behind low p.1))

-- ---- the code

version_is : (version : ℕ) (c : Code) (bytes : List ℕ) → Image version c bytes → is_written c bytes ≡ true → version ≡ version_of c
version_is version c bytes i e =
    let head = i.spelled.1.1.1.1 in
    let same : bytes ≡ image.mark ++ version ∷ i.spelled.1.1.1.0 = head.1 ∙ ap (λ w. image.mark ++ w) head.2 in
    eqb-true version (version_of c) (ap (is_written c) (sym same) ∙ e)

tells_coded : {most : ℕ} (left : ℕ) (bytes : List ℕ) (r : Result Code Flaw) → IsBytes bytes → image_at bytes ≡ r → left ≤ most →
    Tells most (λ c. Image (version_of c) c bytes) (coded left bytes r)
tells_coded left bytes (Err f) b e low = fails low
tells_coded left bytes (Ok c) b e low =
    tells_if (is_written c bytes) _ _
    (λ t. (let i = image_take bytes c b e in
    tells (subst (λ v. Image v c bytes) (version_is i.0 c bytes i.1 t) i.1)))
    (λ t. fails low)

tells_code : {most : ℕ} → TellsField most imaged code_at
unfolding code_at
tells_code {most = most} bytes b =
    let none : 0 ≤ most = omega arith in
    tells_then _ (tells_wide bytes b)
    (λ n p. tells_if (ltb (length n.1) n.0) _ _ (λ t. fails none)
    (λ t. (let text = text_told n.0 n.1 t p.1 in
    tells_then _
    (tells_coded (length n.1) (take n.0 n.1) (image_at (take n.0 n.1)) (take_bytes n.0 n.1 p.1.fits) refl p.1.few)
    (λ c i. tells ((take n.0 n.1, i, (n.1, subst (λ k. wide k bytes n.1) text.long p.0, text.text)), text.behind)))))

-- ---- the numbers

abbrev NumbersOf : Numbers → Field
NumbersOf n = numbers (kept_of n [] [] [])

tells_numbers : {most : ℕ} → TellsField most NumbersOf numbers_at
unfolding numbers_at
tells_numbers bytes b =
    tells_then _ (tells_most MOST_STEPS bytes b)
    (λ left p. tells_then _ (tells_most (MOST_STEPS - left.0) left.1 p.1)
    (λ spent q. tells_then _ (tells_most MOST_NOW spent.1 q.1)
    (λ now r. tells_then _ (tells_most spent.0 now.1 r.1)
    (λ next u. tells_then _ (tells_most MOST_TRACE_BYTES next.1 u.1)
    (λ printed v. tells_then _ (tells_most printed.0 printed.1 v.1)
    (λ lines z.
    tells ((printed.1, (next.1, (now.1, (spent.1, (left.1, p.0.0, q.0.0), r.0.0), u.0.0), v.0.0), z.0.0), z.1)))))))

-- ---- all parts

-- spelled by the bytes, and no place has more bytes left than the most
pub record PartsTold (most : ℕ) (bytes : List ℕ) (m : Found) : Type 0 where
  pub spelled : fields m.code m.kept bytes []
  pub cells : AllLeft most m.cell_lefts
  pub entries : AllLeft most m.entry_lefts
  pub tasks : AllLeft most m.task_lefts

tells_ended : {most : ℕ} (m : Found) (bytes rest : List ℕ) → fields m.code m.kept bytes rest → AllLeft most m.cell_lefts →
    AllLeft most m.entry_lefts → AllLeft most m.task_lefts → Within most rest → Tells most (PartsTold most bytes) (ended m rest)
tells_ended m bytes [] h cells entries tasks b =
    tells (record { spelled = h; cells = cells; entries = entries; tasks = tasks })
tells_ended m bytes (x ∷ rest) h cells entries tasks b = fails b.few

pub tells_parts : {most : ℕ} (bytes : List ℕ) → Within most bytes → Tells most (PartsTold most bytes) (parts_found_at bytes)
unfolding parts_found_at
tells_parts bytes b =
    tells_then _ (tells_mark mark (length bytes) bytes b.few b)
    (λ behind o. tells_then _ (tells_code behind o.1)
    (λ code p. tells_then _ (tells_numbers code.1 p.1)
    (λ ns q. tells_then _ (tells_cells code.0.classes ns.1 q.1)
    (λ cells r. tells_then _ (tells_spawned ns.0.spent cells.1 r.1)
    (λ spawned u. tells_then _
    (tells_tasks (record { code = code.0; numbers = ns.0; cells = cells.0.0; spawned = spawned.0.0 }) spawned.1 u.1)
    (λ tasks v. tells_ended
    (record {
      code = code.0;
      kept = kept_of ns.0 cells.0.0 spawned.0.0 tasks.0.0;
      cell_lefts = cells.0.1;
      entry_lefts = spawned.0.1;
      task_lefts = tasks.0.1;
    }) bytes tasks.1
    (spawned.1, (cells.1, (ns.1, (code.1, (behind, o.0, p.0), q.0), r.0.0), u.0.0), v.0.0) r.0.1 u.0.1 v.0.1 v.1))))))

pub found_is_spelled : FoundIsSpelled
found_is_spelled bytes m b e =
    let all : length bytes ≤ length bytes = omega arith in
    (told_is m (tells_parts bytes (record { fits = b; few = all })) e).spelled

-- ---- the rules on the whole list

broken_left : (most : ℕ) (bytes : List ℕ) (m : Found) → PartsTold most bytes m → IfLeft most (broken m)
broken_left most bytes m p =
    let s = m.kept in
    let cell = broken_cell (length s.spawned) 0 s.cells in
    let entry = broken_entry s.tasks 0 s.spawned in
    let task = broken_task m.code s.spent s.tasks [] 0 s.tasks in
    or_left most (left_at m.cell_lefts cell) (or_else (left_at m.entry_lefts entry) (left_at m.task_lefts task))
    (some_left most m.cell_lefts cell p.cells)
    (or_left most (left_at m.entry_lefts entry) (left_at m.task_lefts task) (some_left most m.entry_lefts entry p.entries)
    (some_left most m.task_lefts task p.tasks))

abbrev Spells : List ℕ → Code × Kept → Type 0
Spells bytes x = fields x.0 x.1 bytes []

tells_whole : (most : ℕ) (bytes : List ℕ) (m : Found) (o : Option ℕ) → fields m.code m.kept bytes [] → IfLeft most o →
    Tells most (Spells bytes) (whole m o)
tells_whole most bytes m None h low = tells h
tells_whole most bytes m (Some left) h low = fails low

tells_run : {most : ℕ} (bytes : List ℕ) → Within most bytes → Tells most (Spells bytes) (run_at bytes)
unfolding run_at
tells_run {most = most} bytes b =
    tells_then _ (tells_parts bytes b) (λ m p. tells_whole most bytes m (broken m) p.spelled (broken_left most bytes m p))

-- ---- files

pub record FileTold (file : List ℕ) (x : Code × Kept) : Type 0 where
  pub bytes : List ℕ
  pub behind : StandsBehind file bytes
  pub spelled : fields x.0 x.1 bytes []

tells_file : (file : List ℕ) → IsBytes file → Tells (length file) (FileTold file) (file_at file)
unfolding file_at
tells_file file b =
    let all : length file ≤ length file = omega arith in
    let none : 0 ≤ length file = omega arith in
    tells_then _ (tells_up none (tells_start file))
    (λ bytes p. tells_as (λ x h. record { bytes = bytes; behind = p; spelled = h })
    (tells_run bytes (behind_within p (record { fits = b; few = all }))))

pub read_saved : ReadRunFits → ReadIsSaved
read_saved fit file c s b e =
    let told = told_is (c, s) (tells_file file b) e in
    record { bytes = told.bytes; behind = told.behind; saved = record { fits = (fit file c s b e).1; spelled = told.spelled } }

fault_is_within : (file : List ℕ) (f : Flaw) → IsBytes file → file_at file ≡ Err f → f.left ≤ length file
fault_is_within file f b e = fault_is f (tells_file file b) e

pub one_of_two : ReadIsSaved → SavedIsRead → RunOrFault
one_of_two saved read file b = by_answer (file_at file) refl
  where
    by_answer : (r : Result (Code × Kept) Flaw) → file_at file ≡ r →
        ((c : Code) × (s : Kept) × SavedFile c s file × (file_at file ≡ Ok (c, s))) ⊎
        ((f : Flaw) × (file_at file ≡ Err f) × (f.left ≤ length file) × ((c : Code) (s : Kept) → SavedFile c s file → ⊥))
    by_answer (Ok x) e = inl (x.0, x.1, saved file x.0 x.1 b e, e)
    by_answer (Err f) e = inr (f, e, fault_is_within file f b e, λ c s p. (let other = read file c s p in absurd (cc)))
