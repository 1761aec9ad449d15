use Rattle.run_save_fits.proofs.Saved.{savable_goes_on}
use Rattle.run_save_fits.proofs.savable_goes_on.Goals as goal

pub returns : goal.returns
returns c = savable_goes_on
