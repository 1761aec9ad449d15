use Rattle.lower_code_laws.proofs.Forms.{attempts_have_code}
use Rattle.lower_code_laws.proofs.attempts_have_code.Goals as goal

pub returns : goal.returns
returns c = attempts_have_code
