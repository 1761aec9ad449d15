use Rattle.run_save_resumes.proofs.Resumed.{fits_is_resumable}
use Rattle.run_save_resumes.proofs.fits_is_resumable.Goals as goal

pub returns : goal.returns
returns c = fits_is_resumable
