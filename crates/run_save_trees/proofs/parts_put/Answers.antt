use Rattle.run_save_trees.specs.Putting.{itself}
use Rattle.run_save_trees.proofs.Puts.{part_put}
use Rattle.run_save_trees.proofs.parts_put.Goals as goal

pub returns : goal.returns
returns c = part_put itself
