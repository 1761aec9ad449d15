use Rattle.lower_bounds.proofs.Whole.{size_stands}
use Rattle.lower_bounds.proofs.size_stands.Goals as goal

pub returns : goal.returns
returns c = size_stands
