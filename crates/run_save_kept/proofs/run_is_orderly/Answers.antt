use Rattle.run_save_kept.proofs.Through.{run_is_orderly}
use Rattle.run_save_kept.proofs.run_is_orderly.Goals as goal

pub returns : goal.returns
returns c = run_is_orderly
