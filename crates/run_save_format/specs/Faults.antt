-- What an answer tells of a file, and what saved runs and their faults have in common.
use Rattle.std.specs.Prelude.{◌≡◌, ◌≤◌, ◌⊎◌, ℕ, ◌-◌, List, ◌++◌, length, Result, Ok, Err}
use Rattle.verse_code.specs.declared.codes.Code.{Code}
use Rattle.verse_image.specs.declared.faults.Flaw.{Flaw}
use Rattle.verse_image.specs.Numbers.{IsBytes}
use Rattle.verse_image.specs.Reading.{flaw}
use Rattle.run_save_shots.specs.declared.shots.Shot.{Shot}
use Rattle.run_save_shots.specs.Kept.{Kept}
use Rattle.run_save_shots.specs.View.{shot_of}
use Rattle.run_save_format.specs.declared.faults.SaveFault.{SaveFault}
use Rattle.run_save_format.specs.declared.faults.SaveFault.TheVariants as faults
use Rattle.run_save_format.specs.Format.{Saved, SavedFile}
use Rattle.run_save_format.specs.Whole.{file_at}

-- the answer tells what reading the file gives, unless memory ran out: a failing place by its
-- offset
abbrev pub Tells : List ℕ → Result (Code × Shot) SaveFault → Result (Code × Kept) Flaw → Type 0
Tells file (Ok x) read = read ≡ Ok (x.0, shot_of x.1)
Tells file (Err faults.Memory) read = Unit {0}
Tells file (Err (faults.Bad rule at)) read = (left : ℕ) ×
    (read ≡ Err (record { rule = rule; left = left })) × (at ≡ length file - left)

-- what is read is saved there, and what is saved there is read
abbrev pub ReadIsSaved : Type 0
ReadIsSaved = (file : List ℕ) (c : Code) (s : Kept) → IsBytes file → file_at file ≡ Ok (c, s) →
    SavedFile c s file

abbrev pub SavedIsRead : Type 0
SavedIsRead = (file : List ℕ) (c : Code) (s : Kept) → SavedFile c s file → file_at file ≡ Ok (c, s)

-- bytes are the saved run of one code and one shot at most
abbrev pub OneRun : Type 0
OneRun = (bytes : List ℕ) (c d : Code) (s t : Kept) → Saved c s bytes → Saved d t bytes → (c ≡ d) ×
    (s ≡ t)

-- a code and what is kept have one saved run
abbrev pub OneSaved : Type 0
OneSaved = (c : Code) (s : Kept) (a b : List ℕ) → Saved c s a → Saved c s b → a ≡ b

-- a file has a saved run, or a first failing place, and never both
abbrev pub RunOrFault : Type 0
RunOrFault = (file : List ℕ) → IsBytes file →
    ((c : Code) × (s : Kept) × SavedFile c s file × (file_at file ≡ Ok (c, s))) ⊎
    ((f : Flaw) × (file_at file ≡ Err f) × (f.left ≤ length file) ×
    ((c : Code) (s : Kept) → SavedFile c s file → ⊥))

-- The bytes before a failing place end too early (S3). Before bytes behind a saved run (S6) stands
-- that run, or one that breaks a rule on the whole list (S5). An image without a byte fails where
-- it would stand (S2), whatever follows.
abbrev pub FrontOf : ℕ → Result (Code × Kept) Flaw → Type 0
FrontOf rule (Ok x) = rule ≡ 6
FrontOf rule (Err g) = (g ≡ flaw 3 0) ⊎
    (((rule ≡ 6) × (g.rule ≡ 5)) ⊎ ((rule ≡ 2) × (g ≡ flaw 2 0)))

-- a fault is the first from the left; but where the file ends too early, or has no line that begins
-- as it should, the fault is at its end
abbrev pub FrontHasNoFault : Type 0
FrontHasNoFault = (file : List ℕ) (f : Flaw) → file_at file ≡ Err f → (f.left ≡ 0) ⊎
    ((f.left ≤ length file) × ((front behind : List ℕ) → file ≡ front ++ behind →
    length behind ≡ f.left → FrontOf f.rule (file_at front)))
