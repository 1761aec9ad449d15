-- A run of a code from wherever it begins, and what may have been written of it.
use Rattle.std.specs.Prelude.{◌≡◌, ℕ, List, Bool}
use Rattle.verse_code.specs.declared.codes.Code.{Code}
use Rattle.verse_value.specs.Runs.{Run}
use Rattle.verse_meaning_state.specs.Texts.{run_text}
use Rattle.verse_meaning_state.specs.Turns.{Stage}
use Rattle.verse_code_machine.specs.Runs.{Forest}
use Rattle.verse_top_args.specs.Words.{Options}
use Rattle.verse_top_texts.specs.Endings.{ending_status}
use Rattle.verse_top_texts.specs.Streams.{Streams}
use Rattle.vm_run.specs.Origins.{Origin, from_inputs, stage_after, whole_run}

pub record Course : Type 0 where
  pub origin : Origin
  -- how many steps it may spend
  pub steps : ℕ
  -- the horizon of the clock, in milliseconds
  pub until : ℕ
  -- whether the heap is written
  pub heap : Bool

-- from the inputs
abbrev pub course_of : Options → Course
course_of o = record {
  origin = from_inputs o.inputs;
  steps = o.steps;
  until = o.until;
  heap =
      o.heap;
}

-- after a first call and so many turns more
abbrev pub stage_on : Code → Course → ℕ → Stage Forest
stage_on c w k = stage_after c w.origin w.steps w.until k

abbrev pub run_on : Code → Course → Run
run_on c w = whole_run c w.origin w.steps w.until

-- its text, and its status
pub record Comes (c : Code) (w : Course) (status : ℕ) (text : List ℕ) : Type 0 where
  pub status_is : status ≡ ending_status (run_on c w).ending
  pub text_is : text ≡ run_text (run_on c w) w.heap c.files

-- what may have been written of it
abbrev pub ComesSoFar : Code → Course → List ℕ → Type 0
ComesSoFar c w text = Streams (stage_on c w) (run_on c w) w.heap text
