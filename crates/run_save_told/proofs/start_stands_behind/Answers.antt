use Rattle.run_save_told.proofs.Files.{start_stands_behind}
use Rattle.run_save_told.proofs.start_stands_behind.Goals as goal

pub returns : goal.returns
returns c = start_stands_behind
