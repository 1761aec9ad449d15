use Rattle.run_save_same.proofs.Same.{spelled_trees_are_the_same}
use Rattle.run_save_same.proofs.spelled_trees_are_the_same.Goals as goal

pub returns : goal.returns
returns c = spelled_trees_are_the_same c.table_pairs.ensures c.table_sorts.ensures
