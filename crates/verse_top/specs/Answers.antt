-- What the top call answers: a status and the text that is written.
use Rattle.std.specs.Prelude.{◌≡◌, ℕ, List, [], ◌∷◌, ◌++◌, length, Bool, Option, Some, codes}
use Rattle.verse_base.specs.declared.refusals.Refusal.{Refusal}
use Rattle.verse_lex.specs.Cut.{first_place}
use Rattle.verse_outside.specs.Held.{Holding}
use Rattle.verse_code.specs.declared.codes.Code.{Code}
use Rattle.verse_tree.specs.ItemTree.{ItemTree}
use Rattle.verse_meaning_state.specs.Texts.{ending_line, run_text}
use Rattle.verse_top_texts.specs.Refusals.{refusal_line}
use Rattle.verse_image.specs.Format.{Image, version_of}
use Rattle.verse_top_exec.specs.Executions.{Executes, ExecutesSoFar, run_with}
use Rattle.verse_top_args.specs.Words.{Command, run, exec, save, resume, check, build, note}
use Rattle.verse_top_args.specs.Words.{list, assemble, verify, load, files_of, Options}
use Rattle.verse_accept.specs.Fronts.{Accepts, IsRefused, refusal}
use Rattle.verse_top_listing.specs.Listings.{Assembles, Lists}
use Rattle.verse_top_verify.specs.Verifying.{Verifies}
use Rattle.verse_top_save.specs.Saving.{SavedTwice, Saves, SavesSoFar}
use Rattle.verse_top_resume.specs.Resuming.{Resumes, ResumesSoFar}
use Rattle.verse_top_load.specs.Load.{lines_line, load_text_of}
use Rattle.verse_top.specs.Loading.{AreLoaded, IsRead, IsTooLarge}
use Rattle.verse_top.specs.Programs.{IsProgram}
use Rattle.verse_top.specs.Meaning.{MeansSoFar, code_from, default_options, mean_with}
use Rattle.verse_top.specs.Meaning.{notes_from}
use Rattle.verse_top_texts.specs.Endings.{ending_status}
use Rattle.verse_top_texts.specs.Verdicts.{ok_line}

abbrev pub words_line : List ℕ
words_line = codes "= words\n"

abbrev pub read_line : List ℕ → List ℕ
read_line file = codes "= read " ++ (file ++ codes "\n")

abbrev pub memory_line : List ℕ
memory_line = codes "= memory\n"

-- the bytes are the image of the code of items in so many files, and with all options its run is
-- what the items mean
pub record IsImageOf (is : List ItemTree) (files : ℕ) (bytes : List ℕ) : Type 0 where
  pub image : Image (version_of (code_from is files)) (code_from is files) bytes
  pub runs : (o : Options) → run_with (code_from is files) o ≡ mean_with is o

-- they are written for `build`
abbrev pub IsBuilt : List ItemTree → (files status : ℕ) → List ℕ → Type 0
IsBuilt is files status text = (status ≡ 0) × IsImageOf is files text

-- the bytes are the notes of that code
abbrev pub AreNoted : List ItemTree → (files status : ℕ) → List ℕ → Type 0
AreNoted is files status text = (status ≡ 0) × (text ≡ notes_from is files)

-- the status and the text of the run that items in so many files mean
pub record Means (is : List ItemTree) (o : Options) (files status : ℕ) (text : List ℕ) :
    Type 0 where
  pub status_is : status ≡ ending_status (mean_with is o).ending
  pub text_is : text ≡ run_text (mean_with is o) o.heap files

-- of that run the status, the line of its ending, and how many lines its trace has
pub record MeansInShort (is : List ItemTree) (o : Options) (files status : ℕ) (text : List ℕ) :
    Type 0 where
  pub status_is : status ≡ ending_status (mean_with is o).ending
  pub text_is : text ≡ ending_line files (mean_with is o) ++
      lines_line (length (mean_with is o).trace)

-- the text of the load is the one file of a program, which is run by the default options; or it is
-- refused
pub data Loads (n : ℕ) : ℕ → List ℕ → Type 0 where
  accepted : (is : List ItemTree) (status : ℕ) (text : List ℕ) → Accepts (load_text_of n ∷ []) is →
      MeansInShort is default_options 1 status text → Loads n status text
  rejected : (r : Refusal) → IsRefused (load_text_of n ∷ []) r → Loads n 1 (refusal_line [] r)

-- the status and the text for a command over what is held
pub data Answers (held : Holding) : Command → ℕ → List ℕ → Type 0 where
  too_large : (c : Command) (file : ℕ) → IsProgram c → IsTooLarge held 0 (files_of c) file →
      Answers held c 1 (refusal_line (files_of c) (refusal 2 (first_place file)))
  refused : (c : Command) (files : List (List ℕ)) (r : Refusal) → IsProgram c →
      AreLoaded held (files_of c) files → IsRefused files r →
      Answers held c 1 (refusal_line (files_of c) r)
  checked : (names files : List (List ℕ)) (is : List ItemTree) → AreLoaded held names files →
      Accepts files is → Answers held (check names) 0 ok_line
  ran : (names : List (List ℕ)) (o : Options) (files : List (List ℕ)) (is : List ItemTree) →
      AreLoaded held names files → Accepts files is →
      Answers held (run names o) (ending_status (mean_with is o).ending)
      (run_text (mean_with is o) o.heap (length names))
  built : (names : List (List ℕ)) (files : List (List ℕ)) (is : List ItemTree) (bytes : List ℕ) →
      AreLoaded held names files → Accepts files is → IsImageOf is (length names) bytes →
      Answers held (build names) 0 bytes
  noted : (names : List (List ℕ)) (files : List (List ℕ)) (is : List ItemTree) →
      AreLoaded held names files → Accepts files is →
      Answers held (note names) 0 (notes_from is (length names))
  executed : (name : List ℕ) (o : Options) (bytes : List ℕ) (status : ℕ) (text : List ℕ) →
      IsRead held name bytes → Executes bytes o status text →
      Answers held (exec name o) status text
  saved : (name : List ℕ) (o : Options) (bytes : List ℕ) (status : ℕ) (text : List ℕ) →
      IsRead held name bytes → Saves bytes o status text →
      Answers held (save name o) status text
  resumed : (name : List ℕ) (until : ℕ) (heap : Bool) (bytes : List ℕ) (status : ℕ)
      (text : List ℕ) → IsRead held name bytes → Resumes bytes until heap status text →
      Answers held (resume name until heap) status text
  listed : (name bytes : List ℕ) (status : ℕ) (text : List ℕ) → IsRead held name bytes →
      Lists bytes status text → Answers held (list name) status text
  assembled : (name bytes : List ℕ) (status : ℕ) (text : List ℕ) → IsRead held name bytes →
      Assembles bytes status text → Answers held (assemble name) status text
  verified : (image notes bytes more : List ℕ) (status : ℕ) (text : List ℕ) →
      IsRead held image bytes → IsRead held notes more → Verifies bytes more status text →
      Answers held (verify image notes) status text
  loaded : (n status : ℕ) (text : List ℕ) → Loads n status text → Answers held (load n) status text

-- What may have been written for a command where memory ran out: of a run that is written as it
-- goes on some of its text, and otherwise nothing.
pub data Begins (held : Holding) : Command → List ℕ → Type 0 where
  nothing : (c : Command) → Begins held c []
  running : (names : List (List ℕ)) (o : Options) (files : List (List ℕ)) (is : List ItemTree)
      (text : List ℕ) → AreLoaded held names files → Accepts files is → MeansSoFar is o text →
      Begins held (run names o) text
  executing : (name : List ℕ) (o : Options) (bytes text : List ℕ) → IsRead held name bytes →
      ExecutesSoFar bytes o text → Begins held (exec name o) text
  saving : (name : List ℕ) (o : Options) (bytes text : List ℕ) → IsRead held name bytes →
      SavesSoFar bytes o text → Begins held (save name o) text
  resuming : (name : List ℕ) (until : ℕ) (heap : Bool) (bytes text : List ℕ) →
      IsRead held name bytes → ResumesSoFar bytes until heap text →
      Begins held (resume name until heap) text

-- Two texts of a command are the same; but of a run that is saved the trees of tasks may be kept
-- in any order.
pub data Alike : Command → List ℕ → List ℕ → Type 0 where
  one_text : (c : Command) (text : List ℕ) → Alike c text text
  of_one_run : (name : List ℕ) (o : Options) (c : Code) (x y : List ℕ) → SavedTwice c o x y →
      Alike (save name o) x y

-- over files that tell what they hold a command has one answer
abbrev pub AnsweredOnce : Type 0
AnsweredOnce = (held : List ℕ → Option (List ℕ)) (c : Command) (s t : ℕ) (x y : List ℕ) →
    Answers (Some held) c s x → Answers (Some held) c t y →
    (s ≡ t) × Alike c x y

-- `exec` of what `build` wrote writes what `run` writes with the same options, with the same status
abbrev pub ExecRunsWhatIsBuilt : Type 0
ExecRunsWhatIsBuilt = (held : List ℕ → Option (List ℕ)) (other : Holding) (names : List (List ℕ))
    (name image : List ℕ) (o : Options) (status : ℕ) (text : List ℕ) →
    Answers (Some held) (build names) 0 image → IsRead other name image →
    Answers (Some held) (run names o) status text → Answers other (exec name o) status text

-- this answer and no other
abbrev pub IsAnswer : ℕ → List ℕ → ℕ → List ℕ → Type 0
IsAnswer status text s t = (s ≡ status) × (t ≡ text)
