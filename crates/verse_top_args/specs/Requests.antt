-- Which command a request asks for.
use Rattle.verse_base.specs.declared.limits.TheConstants.{MOST_NOW, MOST_STEPS}
use Rattle.std.specs.Prelude.{◌≡◌, ℕ, ◌≤◌, ℤ, List, [], ◌∷◌, map, string_bytes}
use Rattle.std.specs.Prelude.{option_copied, unwrap_or}
use Rattle.verse_top_args.specs.Words.{AreFiles, Command, Given, Gives, Inputs, IsFile, Options}
use Rattle.verse_top_args.specs.Words.{assemble, build, check, exec, list, load, no_options, note}
use Rattle.verse_top_args.specs.Words.{resume, run, save, verify}
use Rattle.verse_top_args.specs.declared.commands.Request.{Request}
use Rattle.verse_top_args.specs.declared.commands.Request.TheVariants as request
use Rattle.verse_top_args.specs.declared.commands.Running.{Running}
use Rattle.verse_top_args.specs.declared.commands.Resuming.{Resuming}

-- the options of a run with these inputs
abbrev pub options_with : Running → List ℤ → Options
options_with r ints = record { steps = r.steps; until = r.until; inputs = ints; heap = r.heap }

-- the numbers are within their limits
pub record IsWithin (r : Running) : Type 0 where
  pub steps : r.steps ≤ MOST_STEPS
  pub until : r.until ≤ MOST_NOW

pub record AsksForRun (r : Running) (c : Command) : Type 0 where
  pub within : IsWithin r
  pub ints : List ℤ
  pub lists : Inputs (option_copied r.inputs) ints
  pub is : c ≡ run (map string_bytes r.files.now) (options_with r ints)

-- there is one file, and the command is made of it and of the options
pub record AsksForImage (make : List ℕ → Options → Command) (r : Running) (c : Command) :
    Type 0 where
  pub within : IsWithin r
  pub file : List ℕ
  pub one : map string_bytes r.files.now ≡ file ∷ []
  pub ints : List ℤ
  pub lists : Inputs (option_copied r.inputs) ints
  pub is : c ≡ make file (options_with r ints)

-- there is one file, and the horizon is within its limit
pub record AsksForResume (r : Resuming) (c : Command) : Type 0 where
  pub within : r.until ≤ MOST_NOW
  pub file : List ℕ
  pub one : map string_bytes r.files.now ≡ file ∷ []
  pub is : c ≡ resume file r.until r.heap

-- there is one file, of which the command is made
pub record AsksForOne (make : List ℕ → Command) (files : List (List ℕ)) (c : Command) : Type 0 where
  pub file : List ℕ
  pub one : files ≡ file ∷ []
  pub is : c ≡ make file

-- there are two files, an image and its notes
pub record AsksForVerify (files : List (List ℕ)) (c : Command) : Type 0 where
  pub image : List ℕ
  pub notes : List ℕ
  pub two : files ≡ image ∷ notes ∷ []
  pub is : c ≡ verify image notes

pub record AsksForLoad (n : ℕ) (c : Command) : Type 0 where
  pub from : 2 ≤ n
  pub to : n ≤ 1000
  pub is : c ≡ load n

-- the names of the files
abbrev pub names_of : Request → List (List ℕ)
names_of (request.Run r) = map string_bytes r.files.now
names_of (request.Exec r) = map string_bytes r.files.now
names_of (request.Save r) = map string_bytes r.files.now
names_of (request.Resume r) = map string_bytes r.files.now
names_of (request.Check files) = map string_bytes files.now
names_of (request.Build files) = map string_bytes files.now
names_of (request.Note files) = map string_bytes files.now
names_of (request.List files) = map string_bytes files.now
names_of (request.Assemble files) = map string_bytes files.now
names_of (request.Verify files) = map string_bytes files.now
names_of (request.Load n) = []

-- there are 1 to 16 files, but none of a load
abbrev pub AreNamed : Request → Type 0
AreNamed (request.Run r) = AreFiles (map string_bytes r.files.now)
AreNamed (request.Exec r) = AreFiles (map string_bytes r.files.now)
AreNamed (request.Save r) = AreFiles (map string_bytes r.files.now)
AreNamed (request.Resume r) = AreFiles (map string_bytes r.files.now)
AreNamed (request.Check files) = AreFiles (map string_bytes files.now)
AreNamed (request.Build files) = AreFiles (map string_bytes files.now)
AreNamed (request.Note files) = AreFiles (map string_bytes files.now)
AreNamed (request.List files) = AreFiles (map string_bytes files.now)
AreNamed (request.Assemble files) = AreFiles (map string_bytes files.now)
AreNamed (request.Verify files) = AreFiles (map string_bytes files.now)
AreNamed (request.Load n) = Unit {0}

abbrev pub AsksFor : Request → Command → Type 0
AsksFor (request.Run r) c = AsksForRun r c
AsksFor (request.Exec r) c = AsksForImage exec r c
AsksFor (request.Save r) c = AsksForImage save r c
AsksFor (request.Resume r) c = AsksForResume r c
AsksFor (request.Check files) c = c ≡ check (map string_bytes files.now)
AsksFor (request.Build files) c = c ≡ build (map string_bytes files.now)
AsksFor (request.Note files) c = c ≡ note (map string_bytes files.now)
AsksFor (request.List files) c = AsksForOne list (map string_bytes files.now) c
AsksFor (request.Assemble files) c = AsksForOne assemble (map string_bytes files.now) c
AsksFor (request.Verify files) c = AsksForVerify (map string_bytes files.now) c
AsksFor (request.Load n) c = AsksForLoad n c

-- the first word is no file's name
abbrev pub BeginsWithNoFile : List (List ℕ) → Type 0
BeginsWithNoFile [] = Unit {0}
BeginsWithNoFile (w ∷ ws) = ¬ (IsFile w)

-- the words give no options of a run
abbrev pub NoOptions : List (List ℕ) → Type 0
NoOptions words = (g : Given) (ns : List ℤ) → Gives no_options words g → ¬ (Inputs g.inputs ns)

-- the words give the options that are kept
pub record Gave (words : List (List ℕ)) (r : Running) : Type 0 where
  pub given : Given
  pub ints : List ℤ
  pub gives : Gives no_options words given
  pub lists : Inputs given.inputs ints
  pub steps : r.steps ≡ unwrap_or given.steps 10000000
  pub until : r.until ≡ unwrap_or given.until MOST_NOW
  pub inputs : option_copied r.inputs ≡ given.inputs
  pub heap : r.heap ≡ given.heap
