use Rattle.run_save_same.proofs.Stopped.{stopped_run_is_held}
use Rattle.run_save_same.proofs.stopped_run_is_held.Goals as goal

pub returns : goal.returns
returns c = stopped_run_is_held c.run_is_savable.ensures c.run_is_orderly.ensures c.run_is_born.ensures c.run_keeps_arms.ensures
