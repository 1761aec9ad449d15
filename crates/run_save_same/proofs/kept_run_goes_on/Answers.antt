use Rattle.run_save_same.proofs.Stopped.{kept_run_goes_on}
use Rattle.run_save_same.proofs.kept_run_goes_on.Goals as goal

pub returns : goal.returns
returns c = kept_run_goes_on c.stopped_run_is_held.ensures c.run_resumed.ensures c.spelled_run_is_the_same.ensures
