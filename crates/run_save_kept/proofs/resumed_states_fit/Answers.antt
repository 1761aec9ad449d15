use Rattle.run_save_kept.proofs.Whole.{resumed_states_fit}
use Rattle.run_save_kept.proofs.resumed_states_fit.Goals as goal

pub returns : goal.returns
returns c = resumed_states_fit c.resumed_run_fits.ensures
