use Rattle.run_save_trees.specs.Putting.{itself}
use Rattle.run_save_trees.proofs.Puts.{root_put}
use Rattle.run_save_trees.proofs.roots_put.Goals as goal

pub returns : goal.returns
returns c = root_put itself
