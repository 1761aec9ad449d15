use Rattle.run_save_chain.proofs.Chains.{held_spelled}
use Rattle.run_save_chain.proofs.held_spelled.Goals as goal

pub returns : goal.returns
returns c = held_spelled c.trees_are_spelled.ensures c.spelled_trees_are_the_same.ensures
