-- Which statuses the run of an accepted program has. None is 8, that of a run that ends stuck.
use Rattle.std.specs.Prelude.{ℕ, List}
use Rattle.verse_top_args.specs.Words.{Command, run, load, Options}

-- of a run of an accepted program
pub data EndStatus : ℕ → Type 0 where
  done : EndStatus 0
  -- it waits for ever, or for what is due behind the horizon, or no step is left
  unfinished : EndStatus 3
  by_error : EndStatus 4

-- of a program that is run where it is accepted
pub data RunStatus : ℕ → Type 0 where
  refused : RunStatus 1
  ended : {status : ℕ} → EndStatus status → RunStatus status

-- commands that run a program
pub data RunsProgram : Command → Type 0 where
  by_run : (names : List (List ℕ)) (o : Options) → RunsProgram (run names o)
  by_load : (functions : ℕ) → RunsProgram (load functions)
