use Rattle.run_save_kept.proofs.Whole.{saved_states_fit}
use Rattle.run_save_kept.proofs.saved_states_fit.Goals as goal

pub returns : goal.returns
returns c = saved_states_fit c.stopped_run_fits.ensures
