use Rattle.run_save_fits.proofs.KeptAll.{resumed_run_fits}
use Rattle.run_save_fits.proofs.resumed_run_fits.Goals as goal

pub returns : goal.returns
returns c = resumed_run_fits
