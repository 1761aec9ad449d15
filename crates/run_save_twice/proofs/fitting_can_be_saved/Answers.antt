use Rattle.run_save_twice.proofs.Saving.{can_be_saved}
use Rattle.run_save_twice.proofs.fitting_can_be_saved.Goals as goal

pub returns : goal.returns
returns c = can_be_saved
