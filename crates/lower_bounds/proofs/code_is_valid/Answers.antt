use Rattle.lower_bounds.proofs.Whole.{code_is_valid}
use Rattle.lower_bounds.proofs.code_is_valid.Goals as goal

pub returns : goal.returns
returns c = code_is_valid
