use Rattle.lower_code_laws.proofs.Forms.{writes_have_code}
use Rattle.lower_code_laws.proofs.writes_have_code.Goals as goal

pub returns : goal.returns
returns c = writes_have_code
