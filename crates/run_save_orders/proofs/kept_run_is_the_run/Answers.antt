use Rattle.run_save_orders.proofs.Ordered.{kept_run_is_the_run}
use Rattle.run_save_orders.proofs.kept_run_is_the_run.Goals as goal

pub returns : goal.returns
returns c = kept_run_is_the_run c.run_is_savable.ensures c.run_reordered.ensures c.run_resumed.ensures c.run_renumbered.ensures
