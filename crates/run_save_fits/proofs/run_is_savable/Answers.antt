use Rattle.run_save_fits.proofs.Saved.{run_is_savable}
use Rattle.run_save_fits.proofs.run_is_savable.Goals as goal

pub returns : goal.returns
returns c = run_is_savable
