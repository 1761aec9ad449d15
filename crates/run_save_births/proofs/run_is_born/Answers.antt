use Rattle.run_save_births.proofs.Runs.{run_is_born}
use Rattle.run_save_births.proofs.run_is_born.Goals as goal

pub returns : goal.returns
returns c = run_is_born
