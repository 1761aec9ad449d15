use Rattle.run_save_apart.proofs.Runs.{apart_goes_on}
use Rattle.run_save_apart.proofs.apart_goes_on.Goals as goal

pub returns : goal.returns
returns c = apart_goes_on
