use Rattle.run_save_told.proofs.Whole.{found_is_spelled}
use Rattle.run_save_told.proofs.found_is_spelled.Goals as goal

pub returns : goal.returns
returns c = found_is_spelled
