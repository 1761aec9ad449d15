use Rattle.run_save_same.proofs.Stopped.{held_run_goes_on}
use Rattle.run_save_same.proofs.held_run_goes_on.Goals as goal

pub returns : goal.returns
returns c = held_run_goes_on c.runs_end_from.ensures c.held_goes_on.ensures c.run_resumed_again.ensures c.spelled_run_is_the_same.ensures
