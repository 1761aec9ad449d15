use Rattle.run_save_fronts.proofs.Files.{front_has_no_fault}
use Rattle.run_save_fronts.proofs.front_has_no_fault.Goals as goal

pub returns : goal.returns
returns c = front_has_no_fault
