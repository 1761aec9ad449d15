use Rattle.run_save_orders.proofs.Meeting.{table_sorts}
use Rattle.run_save_orders.proofs.table_sorts.Goals as goal

pub returns : goal.returns
returns c = table_sorts c.numberings_meet.ensures
