use Rattle.run_save_trees.proofs.Ends.{all_stand}
use Rattle.run_save_trees.proofs.tasks_stand.Goals as goal

pub returns : goal.returns
returns c = all_stand
