use Rattle.run_save_kept.proofs.Grown.{trees_again}
use Rattle.run_save_kept.proofs.trees_grow_again.Goals as goal

pub returns : goal.returns
returns c = trees_again
