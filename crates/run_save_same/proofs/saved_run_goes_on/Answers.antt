use Rattle.run_save_same.proofs.Again.{saved_run_goes_on}
use Rattle.run_save_same.proofs.saved_run_goes_on.Goals as goal

pub returns : goal.returns
returns c = saved_run_goes_on c.steps_kept.ensures c.saved_states_fit.ensures c.fits_is_resumable.ensures c.fitting_run_ends.ensures
