use Rattle.run_save_apart.proofs.Runs.{run_is_apart}
use Rattle.run_save_apart.proofs.run_is_apart.Goals as goal

pub returns : goal.returns
returns c = run_is_apart
