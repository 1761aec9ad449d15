use Rattle.lower_code_laws.proofs.Forms.{wrong_has_code}
use Rattle.lower_code_laws.proofs.wrong_has_code.Goals as goal

pub returns : goal.returns
returns c = wrong_has_code
