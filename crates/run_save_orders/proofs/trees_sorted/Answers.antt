use Rattle.run_save_orders.proofs.Meeting.{trees_sorted}
use Rattle.run_save_orders.proofs.trees_sorted.Goals as goal

pub returns : goal.returns
returns c = trees_sorted c.numberings_meet.ensures
