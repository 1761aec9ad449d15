use Rattle.lower_code_laws.proofs.Forms.{calls_have_code}
use Rattle.lower_code_laws.proofs.calls_have_code.Goals as goal

pub returns : goal.returns
returns c = calls_have_code
