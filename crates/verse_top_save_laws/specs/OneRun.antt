-- A run that is saved and taken up, by what `save`, `resume` and `exec` write.
use Rattle.std.specs.Prelude.{ℕ, ◌≤◌, List, ◌++◌, Bool}
use Rattle.verse_code.specs.declared.codes.Code.{Code}
use Rattle.verse_image.specs.Format.{Image}
use Rattle.verse_image.specs.Numbers.{IsBytes}
use Rattle.verse_meaning_state.specs.Effects.{printed}
use Rattle.verse_top_args.specs.Words.{Options}
use Rattle.verse_top_exec.specs.Endings.{IsWithin}
use Rattle.verse_top_exec.specs.Executions.{Executes, run_with}
use Rattle.verse_top_save.specs.Saving.{IsSaved}
use Rattle.verse_top_resume.specs.Resuming.{Resumes}

-- these options but for the horizon and the lines of the heap
abbrev pub to_horizon : Options → (until : ℕ) → (heap : Bool) → Options
to_horizon o until heap = record {
  steps = o.steps;
  until = until;
  inputs = o.inputs;
  heap = heap;
}

-- The run of an image was saved where it stopped at its horizon. What `resume` writes of that, to
-- any horizon that is no earlier, stands behind the lines printed so far as what `exec` of the
-- image writes to that horizon, and has its status.
abbrev pub ResumeGoesOn : Type 0
ResumeGoesOn = (image : List ℕ) (version : ℕ) (c : Code) (o : Options) (status : ℕ) (file : List ℕ)
    (until : ℕ) (heap : Bool) (ended : ℕ) (text : List ℕ) → IsBytes image →
    Image version c image → IsWithin o → IsSaved c o status file → o.until ≤ until →
    Resumes file until heap ended text →
    Executes image (to_horizon o until heap) ended (printed (run_with c o).trace ++ text)
