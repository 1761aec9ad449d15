use Rattle.lower_code_laws.proofs.Forms.{blocks_have_code}
use Rattle.lower_code_laws.proofs.blocks_have_code.Goals as goal

pub returns : goal.returns
returns c = blocks_have_code
