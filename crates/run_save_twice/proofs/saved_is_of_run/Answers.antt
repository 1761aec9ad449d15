use Rattle.run_save_twice.proofs.Saving.{saved_is_of_run}
use Rattle.run_save_twice.proofs.saved_is_of_run.Goals as goal

pub returns : goal.returns
returns c = saved_is_of_run
