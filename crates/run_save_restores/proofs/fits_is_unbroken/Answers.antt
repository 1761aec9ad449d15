use Rattle.run_save_restores.proofs.Whole.{fits_is_unbroken}
use Rattle.run_save_restores.proofs.fits_is_unbroken.Goals as goal

pub returns : goal.returns
returns c = fits_is_unbroken
