-- What is told of the run of a code where its lines are only counted.
use Rattle.std.specs.Prelude.{◌≡◌, ℕ, List, ◌++◌, length}
use Rattle.verse_code.specs.declared.codes.Code.{Code}
use Rattle.verse_meaning_state.specs.Texts.{ending_line}
use Rattle.verse_top_args.specs.Words.{Options}
use Rattle.verse_top_load.specs.Load.{lines_line}
use Rattle.verse_top_texts.specs.Endings.{ending_status}
use Rattle.verse_top_exec.specs.Executions.{run_with}

-- the status of its ending, and the line of the ending with that of the number of lines behind it
pub record Counts (c : Code) (o : Options) (status : ℕ) (text : List ℕ) : Type 0 where
  pub status_is : status ≡ ending_status (run_with c o).ending
  pub text_is : text ≡ ending_line c.files (run_with c o) ++
      lines_line (length (run_with c o).trace)
