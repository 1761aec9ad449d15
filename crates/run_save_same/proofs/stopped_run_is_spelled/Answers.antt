use Rattle.run_save_same.proofs.Spelling.{stopped_run_is_spelled}
use Rattle.run_save_same.proofs.stopped_run_is_spelled.Goals as goal

pub returns : goal.returns
returns c = stopped_run_is_spelled c.run_is_savable.ensures c.run_is_orderly.ensures
