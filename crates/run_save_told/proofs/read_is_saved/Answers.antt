use Rattle.run_save_told.proofs.Whole.{read_saved}
use Rattle.run_save_told.proofs.read_is_saved.Goals as goal

pub returns : goal.returns
returns c = read_saved c.read_run_fits.ensures
