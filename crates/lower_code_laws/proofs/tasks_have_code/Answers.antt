use Rattle.lower_code_laws.proofs.Forms.{tasks_have_code}
use Rattle.lower_code_laws.proofs.tasks_have_code.Goals as goal

pub returns : goal.returns
returns c = tasks_have_code
