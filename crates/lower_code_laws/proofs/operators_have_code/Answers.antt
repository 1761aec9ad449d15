use Rattle.lower_code_laws.proofs.Forms.{operators_have_code}
use Rattle.lower_code_laws.proofs.operators_have_code.Goals as goal

pub returns : goal.returns
returns c = operators_have_code
