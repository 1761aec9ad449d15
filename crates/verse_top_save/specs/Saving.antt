-- What is answered to the bytes of a file that is run as an image and saved at its horizon, and
-- what of it may have been written.
use Rattle.std.specs.Prelude.{◌≡◌, ◌≢◌, ◌⊎◌, ℕ, ◌-◌, List, ◌++◌, length, Bool, true, false, Err}
use Rattle.std.specs.Prelude.{codes, decimal}
use Rattle.verse_code.specs.declared.codes.Code.{Code}
use Rattle.verse_image.specs.Format.{Image}
use Rattle.verse_image.specs.Reading.{flaw, image_at}
use Rattle.verse_value.specs.Runs.{Run}
use Rattle.verse_value.specs.declared.runs.Ending.{Ending}
use Rattle.verse_value.specs.declared.runs.Ending.TheVariants as ending
use Rattle.verse_meaning_state.specs.Effects.{printed}
use Rattle.verse_meaning_state.specs.Texts.{live_text}
use Rattle.run_save_shots.specs.Kept.{Kept}
use Rattle.run_save_format.specs.Format.{Saved}
use Rattle.vm_run.specs.Origins.{from_inputs}
use Rattle.vm_run.specs.Saving.{IsShot}
use Rattle.verse_top_args.specs.Words.{Options}
use Rattle.verse_top_texts.specs.Images.{image_line}
use Rattle.verse_top_exec.specs.Executions.{ExecutesSoFar, Runs, RunsSoFar, run_with}

abbrev pub is_until : Ending → Bool
is_until ending.Done = false
is_until ending.Waiting = false
is_until ending.Until = true
is_until ending.Steps = false
is_until (ending.Error k p) = false
is_until ending.Stuck = false

-- `= saved at 0 steps 3 live 2`: the moment of the last turn, the steps spent, and how many waits
-- are left
abbrev pub saved_line : Run → List ℕ
saved_line r =
    codes "= saved at " ++ (decimal r.now ++ (codes " steps " ++ (decimal r.steps ++
    (live_text r.live ++ codes "\n"))))

-- the heap is not written
abbrev pub without_heap : Options → Options
without_heap o = record { steps = o.steps; until = o.until; inputs = o.inputs; heap = false }

-- the run stopped at its horizon: its trace, the line that tells so, and the saved run of what is
-- kept of it
pub record IsSaved (c : Code) (o : Options) (status : ℕ) (text : List ℕ) : Type 0 where
  pub kept : Kept
  pub bytes : List ℕ
  pub shot : IsShot c (from_inputs o.inputs) o.steps o.until kept
  pub saved : Saved c kept bytes
  pub status_is : status ≡ 3
  pub text_is : text ≡ printed (run_with c o).trace ++ (saved_line (run_with c o) ++ bytes)

-- A run that stopped at its horizon is saved; one that ended otherwise is written without its heap.
pub data SavesRun (c : Code) (o : Options) : ℕ → List ℕ → Type 0 where
  stopped : (status : ℕ) (text : List ℕ) → IsSaved c o status text → SavesRun c o status text
  ended : (status : ℕ) (text : List ℕ) → (run_with c o).ending ≢ ending.Until →
      Runs c (without_heap o) status text → SavesRun c o status text

-- What may have been written of it: what is saved is made before the line is written, so neither.
abbrev pub SavesRunSoFar : Code → Options → List ℕ → Type 0
SavesRunSoFar c o text = RunsSoFar c (without_heap o) text

-- The bytes are the image of a code, of which the run is saved; or they are none, by the first
-- failing place from the left.
pub data Saves (bytes : List ℕ) (o : Options) : ℕ → List ℕ → Type 0 where
  ran : (version : ℕ) (c : Code) (status : ℕ) (text : List ℕ) → Image version c bytes →
      SavesRun c o status text → Saves bytes o status text
  no_image : (rule left : ℕ) → image_at bytes ≡ Err (flaw rule left) →
      Saves bytes o 1 (image_line rule (length bytes - left))

-- what may have been written where memory ran out
abbrev pub SavesSoFar : List ℕ → Options → List ℕ → Type 0
SavesSoFar bytes o text = ExecutesSoFar bytes (without_heap o) text

-- two texts with saved runs of what is kept of one run, of which the trees of tasks may be kept in
-- any order
pub record SavedTwice (c : Code) (o : Options) (x y : List ℕ) : Type 0 where
  pub first : IsSaved c o 3 x
  pub second : IsSaved c o 3 y

-- bytes have one status, and one text but for the order in which trees are kept
abbrev pub SavedOnce : Type 0
SavedOnce = (bytes : List ℕ) (o : Options) (s t : ℕ) (x y : List ℕ) → Saves bytes o s x →
    Saves bytes o t y → (s ≡ t) × ((x ≡ y) ⊎ ((c : Code) × SavedTwice c o x y))

-- what is written behind the trace: a line, and the saved run of what is kept
abbrev pub IsWritten : Code → Kept → (line : List ℕ) → ℕ → List ℕ → Type 0
IsWritten c x line status text =
    (status ≡ 3) × (bytes : List ℕ) × Saved c x bytes × (text ≡ line ++ bytes)
