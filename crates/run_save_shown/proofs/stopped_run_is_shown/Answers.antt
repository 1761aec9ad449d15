use Rattle.run_save_shown.proofs.Showing.{stopped_shown}
use Rattle.run_save_shown.proofs.stopped_run_is_shown.Goals as goal

pub returns : goal.returns
returns c = stopped_shown c.run_is_apart.ensures c.saved_states_fit.ensures
