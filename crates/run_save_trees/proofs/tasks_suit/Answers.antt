use Rattle.run_save_trees.proofs.Suiting.{suits}
use Rattle.run_save_trees.proofs.tasks_suit.Goals as goal

pub returns : goal.returns
returns c = suits
