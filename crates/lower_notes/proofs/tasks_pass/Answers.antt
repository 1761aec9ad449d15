use Rattle.lower_notes.proofs.Rows.{tasks_pass}
use Rattle.lower_notes.proofs.tasks_pass.Goals as goal

pub returns : goal.returns
returns c = tasks_pass
