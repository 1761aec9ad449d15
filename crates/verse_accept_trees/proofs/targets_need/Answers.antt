use Rattle.verse_accept_trees.proofs.Targets.{targets_need}
use Rattle.verse_accept_trees.proofs.targets_need.Goals as goal

pub returns : goal.returns
returns c = targets_need
