use Rattle.run_save_orders.proofs.Rooting.{run_sorted}
use Rattle.run_save_orders.proofs.run_sorted.Goals as goal

pub returns : goal.returns
returns c = run_sorted c.operation_roots.ensures
