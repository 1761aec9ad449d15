use Rattle.run_save_orders.proofs.Runs.{run_reordered}
use Rattle.run_save_orders.proofs.run_reordered.Goals as goal

pub returns : goal.returns
returns c = run_reordered
