use Rattle.run_save_same.proofs.Spelled.{trees_are_spelled}
use Rattle.run_save_same.proofs.trees_are_spelled.Goals as goal

pub returns : goal.returns
returns c = trees_are_spelled
