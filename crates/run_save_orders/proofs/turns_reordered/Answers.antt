use Rattle.run_save_orders.proofs.Runs.{turns_reordered}
use Rattle.run_save_orders.proofs.turns_reordered.Goals as goal

pub returns : goal.returns
returns c = turns_reordered
