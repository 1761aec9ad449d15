-- The words of a command line, and the command that they are.
use Rattle.verse_base.specs.declared.limits.TheConstants.{MOST_NOW, MOST_STEPS}
use Rattle.std.specs.Prelude.{◌≡◌, ◌≢◌, ℕ, ◌≤◌, ℤ, List, [], ◌∷◌, ◌++◌, Bool, true, false, Option}
use Rattle.std.specs.Prelude.{Some, None, unwrap_or, length, codes}
use Rattle.std.specs.Prelude.{decimal, FitsSigned}
use Rattle.std.specs.Fmt.{signed_decimal}
use Rattle.std.specs.Int.{w64}

pub record Options : Type 0 where
  -- how many steps a run may spend
  pub steps : ℕ
  -- the horizon of the clock, in milliseconds
  pub until : ℕ
  -- what Main is given
  pub inputs : List ℤ
  -- whether the heap is written
  pub heap : Bool

pub data Command : Type 0 where
  -- runs the program in the files of these names
  run : (files : List (List ℕ)) → Options → Command
  -- runs the machine of the image in this file
  exec : (file : List ℕ) → Options → Command
  -- runs the machine of the image in this file, and saves the run where it stops at its horizon
  save : (file : List ℕ) → Options → Command
  -- goes on with the run that is saved in this file, to this horizon; `heap` as in options
  resume : (file : List ℕ) → (until : ℕ) → (heap : Bool) → Command
  -- tells whether the program in these files is accepted
  check : (files : List (List ℕ)) → Command
  -- writes the image of the code of the program in these files
  build : (files : List (List ℕ)) → Command
  -- writes the notes of the code of the program in these files
  note : (files : List (List ℕ)) → Command
  -- writes the listing of the image in this file
  list : (file : List ℕ) → Command
  -- writes the image of the code of which this file holds the listing
  assemble : (file : List ℕ) → Command
  -- tests the image in this file by the notes in that one
  verify : (image notes : List ℕ) → Command
  -- runs the generated load of so many functions
  load : (n : ℕ) → Command

-- the names of a command's files
abbrev pub files_of : Command → List (List ℕ)
files_of (run files o) = files
files_of (exec file o) = file ∷ []
files_of (save file o) = file ∷ []
files_of (resume file until heap) = file ∷ []
files_of (check files) = files
files_of (build files) = files
files_of (note files) = files
files_of (list file) = file ∷ []
files_of (assemble file) = file ∷ []
files_of (verify image notes) = image ∷ notes ∷ []
files_of (load n) = []

-- a file's name is not empty and does not begin with `-`
pub data IsFile : List ℕ → Type 0 where
  name : {b : ℕ} {bs : List ℕ} → b ≢ 45 → IsFile (b ∷ bs)

abbrev pub EachIsFile : List (List ℕ) → Type 0
EachIsFile [] = Unit {0}
EachIsFile (w ∷ ws) = IsFile w × EachIsFile ws

-- the names of the files of one program: 1 to 16
pub record AreFiles (files : List (List ℕ)) : Type 0 where
  pub each : EachIsFile files
  pub some : 1 ≤ length files
  pub few : length files ≤ 16

-- a number is written in decimal, with no zero before it
pub record IsNumber (most : ℕ) (word : List ℕ) (n : ℕ) : Type 0 where
  pub spelled : word ≡ decimal n
  pub within : n ≤ most

-- an int is written in decimal, with `-` before a negative one
pub record IsInt (word : List ℕ) (n : ℤ) : Type 0 where
  pub spelled : word ≡ signed_decimal n
  pub within : FitsSigned w64 n

-- ints with commas between them
pub data IsIntList : List ℕ → List ℤ → Type 0 where
  last : {n : ℤ} {word : List ℕ} → IsInt word n → IsIntList word (n ∷ [])
  more : {n : ℤ} {ns : List ℤ} {first rest : List ℕ} → IsInt first n → IsIntList rest ns →
      IsIntList (first ++ 44 ∷ rest) (n ∷ ns)

-- the options given so far; the inputs by the word that lists them
pub record Given : Type 0 where
  pub steps : Option ℕ
  pub until : Option ℕ
  pub inputs : Option (List ℕ)
  pub heap : Bool

abbrev pub no_options : Given
no_options = record { steps = None; until = None; inputs = None; heap = false }

-- after the options before, these words give the options in the end: in any order, each at most
-- once
pub data Gives : Given → List (List ℕ) → Given → Type 0 where
  none_left : {g : Given} → Gives g [] g
  steps : {g h : Given} {value : List ℕ} {words : List (List ℕ)} (n : ℕ) → g.steps ≡ None →
      IsNumber MOST_STEPS value n →
      Gives (record g { steps = Some n }) words h → Gives g (codes "--steps" ∷ value ∷ words) h
  until : {g h : Given} {value : List ℕ} {words : List (List ℕ)} (n : ℕ) → g.until ≡ None →
      IsNumber MOST_NOW value n →
      Gives (record g { until = Some n }) words h → Gives g (codes "--until" ∷ value ∷ words) h
  inputs : {g h : Given} {value : List ℕ} {words : List (List ℕ)} → g.inputs ≡ None →
      Gives (record g { inputs = Some value }) words h → Gives g (codes "--in" ∷ value ∷ words) h
  heap : {g h : Given} {words : List (List ℕ)} → g.heap ≡ false →
      Gives (record g { heap = true }) words h → Gives g (codes "--heap" ∷ words) h

-- what Main is given: the 1 to 1000 ints that the word of `--in` lists, and nothing without it
pub data Inputs : Option (List ℕ) → List ℤ → Type 0 where
  not_given : Inputs None []
  listed : {word : List ℕ} {ns : List ℤ} → IsIntList word ns → length ns ≤ 1000 →
      Inputs (Some word) ns

-- an option that is not given has its default
abbrev pub options_of : Given → List ℤ → Options
options_of g ns = record {
  steps = unwrap_or g.steps 10000000;
  until = unwrap_or g.until MOST_NOW;
  inputs = ns;
  heap = g.heap;
}

-- the words after the program's name, and the command that they are
pub data Says : List (List ℕ) → Command → Type 0 where
  says_run : {files words : List (List ℕ)} {g : Given} {ns : List ℤ} → AreFiles files →
      Gives no_options words g → Inputs g.inputs ns →
      Says (codes "run" ∷ files ++ words) (run files (options_of g ns))
  says_exec : {file : List ℕ} {words : List (List ℕ)} {g : Given} {ns : List ℤ} → IsFile file →
      Gives no_options words g → Inputs g.inputs ns →
      Says (codes "exec" ∷ file ∷ words) (exec file (options_of g ns))
  -- the lines of the heap can't be asked for
  says_save : {file : List ℕ} {words : List (List ℕ)} {g : Given} {ns : List ℤ} → IsFile file →
      Gives no_options words g → g.heap ≡ false → Inputs g.inputs ns →
      Says (codes "save" ∷ file ∷ words) (save file (options_of g ns))
  -- steps and inputs are those of the run that was saved
  says_resume : {file : List ℕ} {words : List (List ℕ)} {g : Given} → IsFile file →
      Gives no_options words g → g.steps ≡ None → g.inputs ≡ None →
      Says (codes "resume" ∷ file ∷ words) (resume file (unwrap_or g.until MOST_NOW) g.heap)
  says_check : {files : List (List ℕ)} → AreFiles files → Says (codes "check" ∷ files) (check files)
  says_build : {files : List (List ℕ)} → AreFiles files → Says (codes "build" ∷ files) (build files)
  says_note : {files : List (List ℕ)} → AreFiles files → Says (codes "note" ∷ files) (note files)
  says_list : {file : List ℕ} → IsFile file → Says (codes "list" ∷ file ∷ []) (list file)
  says_assemble : {file : List ℕ} → IsFile file →
      Says (codes "assemble" ∷ file ∷ []) (assemble file)
  says_verify : {image notes : List ℕ} → IsFile image → IsFile notes →
      Says (codes "verify" ∷ image ∷ notes ∷ []) (verify image notes)
  says_load : {word : List ℕ} {n : ℕ} → IsNumber 1000 word n → 2 ≤ n →
      Says (codes "load" ∷ word ∷ []) (load n)

-- no words are two commands
abbrev pub SayOnce : Type 0
SayOnce = (words : List (List ℕ)) (a b : Command) → Says words a → Says words b → a ≡ b
