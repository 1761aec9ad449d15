use Rattle.run_save_births.proofs.Runs.{births_go_on}
use Rattle.run_save_births.proofs.births_go_on.Goals as goal

pub returns : goal.returns
returns c = births_go_on
