use Rattle.run_save_twice.proofs.Saving.{shown_can_be_saved}
use Rattle.run_save_twice.proofs.shown_can_be_saved.Goals as goal

pub returns : goal.returns
returns c = shown_can_be_saved c.fitting_can_be_saved.ensures c.saved_is_of_run.ensures
