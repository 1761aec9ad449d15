use Rattle.lower_code_laws.proofs.Forms.{values_have_code}
use Rattle.lower_code_laws.proofs.values_have_code.Goals as goal

pub returns : goal.returns
returns c = values_have_code
