use Rattle.run_save_told.proofs.Whole.{one_of_two}
use Rattle.run_save_told.proofs.run_or_fault.Goals as goal

pub returns : goal.returns
returns c = one_of_two c.read_is_saved.ensures c.saved_is_read.ensures
