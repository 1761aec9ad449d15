use Rattle.run_save_same.proofs.Again.{saved_run_is_the_run}
use Rattle.run_save_same.proofs.saved_run_is_the_run.Goals as goal

pub returns : goal.returns
returns c = saved_run_is_the_run c.run_resumed.ensures
