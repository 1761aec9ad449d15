use Rattle.run_save_restores.proofs.Restores.{once}
use Rattle.run_save_restores.proofs.one_run.Goals as goal

pub returns : goal.returns
returns c = once c.saved_is_found.ensures c.fits_is_unbroken.ensures
