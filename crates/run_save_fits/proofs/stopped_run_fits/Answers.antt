use Rattle.run_save_fits.proofs.KeptAll.{stopped_run_fits}
use Rattle.run_save_fits.proofs.stopped_run_fits.Goals as goal

pub returns : goal.returns
returns c = stopped_run_fits c.run_belongs.ensures
