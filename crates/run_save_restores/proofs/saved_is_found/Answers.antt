use Rattle.run_save_restores.proofs.Found.{saved_found}
use Rattle.run_save_restores.proofs.saved_is_found.Goals as goal

pub returns : goal.returns
returns c = saved_found
