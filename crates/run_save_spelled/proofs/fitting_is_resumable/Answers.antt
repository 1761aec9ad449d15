use Rattle.run_save_spelled.proofs.Resumed.{resumable}
use Rattle.run_save_spelled.proofs.fitting_is_resumable.Goals as goal

pub returns : goal.returns
returns c = resumable
