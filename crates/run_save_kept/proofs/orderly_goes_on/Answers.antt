use Rattle.run_save_kept.proofs.Through.{orderly_goes_on}
use Rattle.run_save_kept.proofs.orderly_goes_on.Goals as goal

pub returns : goal.returns
returns c = orderly_goes_on
