-- What is answered to the bytes of a file of which the saved run goes on, and what of it may have
-- been written.
use Rattle.std.specs.Prelude.{◌≡◌, ℕ, ◌+◌, ◌-◌, List, [], ◌++◌, length, Bool, Ok, Err, codes}
use Rattle.std.specs.Prelude.{decimal}
use Rattle.verse_code.specs.declared.codes.Code.{Code}
use Rattle.verse_image.specs.Reading.{flaw}
use Rattle.run_save_shots.specs.Kept.{Kept}
use Rattle.run_save_shots.specs.Spelling.{state, trees}
use Rattle.run_save_format.specs.Whole.{file_at}
use Rattle.vm_run.specs.Origins.{from_state}
use Rattle.verse_top_exec.specs.Courses.{Course, Comes, ComesSoFar}

-- `= state S3 9`: the rule that fails, and its offset
abbrev pub state_line : (rule offset : ℕ) → List ℕ
state_line rule offset =
    codes "= state S" ++ (decimal rule ++ (codes " " ++ (decimal offset ++ codes "\n")))

-- the run that goes on from what is kept, with the steps that were left, to a horizon
abbrev pub course_from : Code → Kept → (until : ℕ) → (heap : Bool) → Course
course_from c x until heap = record {
  origin = from_state (state x) (trees c x);
  steps = x.left + x.spent;
  until = until;
  heap = heap;
}

-- The file has the saved run of a code, behind the first line that begins with `= saved `, and it
-- goes on; or it has none, by the first failing place from the left.
pub data Resumes (file : List ℕ) (until : ℕ) (heap : Bool) : ℕ → List ℕ → Type 0 where
  went_on : (c : Code) (x : Kept) (status : ℕ) (text : List ℕ) → file_at file ≡ Ok (c, x) →
      Comes c (course_from c x until heap) status text → Resumes file until heap status text
  no_state : (rule left : ℕ) → file_at file ≡ Err (flaw rule left) →
      Resumes file until heap 1 (state_line rule (length file - left))

-- what may have been written where memory ran out
pub data ResumesSoFar (file : List ℕ) (until : ℕ) (heap : Bool) : List ℕ → Type 0 where
  nothing : ResumesSoFar file until heap []
  goes_on : (c : Code) (x : Kept) (text : List ℕ) → file_at file ≡ Ok (c, x) →
      ComesSoFar c (course_from c x until heap) text → ResumesSoFar file until heap text

-- a file has one answer
abbrev pub ResumedOnce : Type 0
ResumedOnce = (file : List ℕ) (until : ℕ) (heap : Bool) (s t : ℕ) (x y : List ℕ) →
    Resumes file until heap s x → Resumes file until heap t y → (s ≡ t) × (x ≡ y)

-- the line that tells a fault
abbrev pub IsFault : (rule at : ℕ) → ℕ → List ℕ → Type 0
IsFault rule at status text = (status ≡ 1) × (text ≡ state_line rule at)
