use Rattle.run_save_same.proofs.Stopped.{spelled_run_is_the_same}
use Rattle.run_save_same.proofs.spelled_run_is_the_same.Goals as goal

pub returns : goal.returns
returns c = spelled_run_is_the_same c.table_pairs.ensures c.spelled_trees_are_the_same.ensures
    c.kept_is_same_but_order.ensures c.run_reordered.ensures c.run_sorted.ensures
