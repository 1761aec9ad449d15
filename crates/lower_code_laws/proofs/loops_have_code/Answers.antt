use Rattle.lower_code_laws.proofs.Forms.{loops_have_code}
use Rattle.lower_code_laws.proofs.loops_have_code.Goals as goal

pub returns : goal.returns
returns c = loops_have_code
