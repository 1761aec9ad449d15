use Rattle.run_save_orders.proofs.Ordered.{kept_is_same_but_order}
use Rattle.run_save_orders.proofs.kept_is_same_but_order.Goals as goal

pub returns : goal.returns
returns c = kept_is_same_but_order
