use Rattle.run_save_orders.proofs.Ordered.{kept_is_born}
use Rattle.run_save_orders.proofs.kept_is_born.Goals as goal

pub returns : goal.returns
returns c = kept_is_born c.run_is_born.ensures
