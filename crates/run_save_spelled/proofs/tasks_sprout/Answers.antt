use Rattle.run_save_spelled.proofs.Sprouting.{all_sprout}
use Rattle.run_save_spelled.proofs.tasks_sprout.Goals as goal

pub returns : goal.returns
returns c = all_sprout
