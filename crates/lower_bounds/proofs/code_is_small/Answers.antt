use Rattle.lower_bounds.proofs.Whole.{code_is_small}
use Rattle.lower_bounds.proofs.code_is_small.Goals as goal

pub returns : goal.returns
returns c = code_is_small
