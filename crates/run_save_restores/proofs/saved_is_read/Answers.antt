use Rattle.run_save_restores.proofs.Restores.{saved_read}
use Rattle.run_save_restores.proofs.saved_is_read.Goals as goal

pub returns : goal.returns
returns c = saved_read c.saved_is_found.ensures c.fits_is_unbroken.ensures c.behind_is_found.ensures
