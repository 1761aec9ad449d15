use Rattle.run_save_trees.proofs.Arms.{arms_youngest}
use Rattle.run_save_trees.proofs.arms_are_youngest.Goals as goal

pub returns : goal.returns
returns c = arms_youngest
