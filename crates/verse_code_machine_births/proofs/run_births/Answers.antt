use Rattle.verse_code_machine_births.proofs.Runs.{run_births}
use Rattle.verse_code_machine_births.proofs.run_births.Goals as goal

pub returns : goal.returns
returns c = run_births
