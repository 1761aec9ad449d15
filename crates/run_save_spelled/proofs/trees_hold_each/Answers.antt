use Rattle.run_save_spelled.proofs.Resumed.{each_held}
use Rattle.run_save_spelled.proofs.trees_hold_each.Goals as goal

pub returns : goal.returns
returns c = each_held
