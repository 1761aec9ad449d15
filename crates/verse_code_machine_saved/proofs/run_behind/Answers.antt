use Rattle.verse_code_machine_saved.proofs.Runs.{run_behind}
use Rattle.verse_code_machine_saved.proofs.run_behind.Goals as goal

pub returns : goal.returns
returns c = run_behind
