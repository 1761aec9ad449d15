use Rattle.run_save_restores.proofs.Once.{saved_once}
use Rattle.run_save_restores.proofs.one_saved.Goals as goal

pub returns : goal.returns
returns c = saved_once
