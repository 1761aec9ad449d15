use Rattle.run_save_shown.proofs.Showing.{resumed_shown}
use Rattle.run_save_shown.proofs.resumed_run_is_shown.Goals as goal

pub returns : goal.returns
returns c = resumed_shown c.apart_goes_on.ensures c.resumed_states_fit.ensures
