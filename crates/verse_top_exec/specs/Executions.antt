-- What is answered to the bytes of a file that is run as an image, and what of it may have been
-- written.
use Rattle.std.specs.Prelude.{◌≡◌, ℕ, ◌-◌, ℤ, List, [], length, Bool, Err}
use Rattle.verse_code.specs.declared.codes.Code.{Code}
use Rattle.verse_image.specs.Format.{Image}
use Rattle.verse_image.specs.Reading.{flaw, image_at}
use Rattle.verse_value.specs.Runs.{Run}
use Rattle.verse_code_machine.specs.Runs.{mach}
use Rattle.verse_top_texts.specs.Images.{image_line}
use Rattle.verse_top_args.specs.Words.{Options}
use Rattle.verse_top_exec.specs.Courses.{Comes, ComesSoFar, course_of}

-- the run of a code with these options
abbrev pub run_with : Code → Options → Run
run_with c o = mach c o.inputs o.steps o.until

-- its text, and its status
abbrev pub Runs : Code → Options → ℕ → List ℕ → Type 0
Runs c o status text = Comes c (course_of o) status text

-- what may have been written of it
abbrev pub RunsSoFar : Code → Options → List ℕ → Type 0
RunsSoFar c o text = ComesSoFar c (course_of o) text

-- The bytes are the image of a code, which is run; or they are none, by the first failing place
-- from the left.
pub data Executes (bytes : List ℕ) (o : Options) : ℕ → List ℕ → Type 0 where
  ran : (version : ℕ) (c : Code) (status : ℕ) (text : List ℕ) → Image version c bytes →
      Runs c o status text → Executes bytes o status text
  no_image : (rule left : ℕ) → image_at bytes ≡ Err (flaw rule left) →
      Executes bytes o 1 (image_line rule (length bytes - left))

-- what may have been written where memory ran out
pub data ExecutesSoFar (bytes : List ℕ) (o : Options) : List ℕ → Type 0 where
  nothing : ExecutesSoFar bytes o []
  runs : (version : ℕ) (c : Code) (text : List ℕ) → Image version c bytes → RunsSoFar c o text →
      ExecutesSoFar bytes o text

-- bytes have one answer
abbrev pub ExecutedOnce : Type 0
ExecutedOnce = (bytes : List ℕ) (o : Options) (s t : ℕ) (x y : List ℕ) → Executes bytes o s x →
    Executes bytes o t y → (s ≡ t) × (x ≡ y)

-- the line that tells a fault
abbrev pub IsFault : (rule at : ℕ) → ℕ → List ℕ → Type 0
IsFault rule at status text = (status ≡ 1) × (text ≡ image_line rule at)

abbrev pub IsNothing : List ℕ → Type 0
IsNothing text = text ≡ []
