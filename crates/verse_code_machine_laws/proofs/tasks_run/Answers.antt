use Rattle.verse_code_machine_laws.proofs.Rows.{tasks_run}
use Rattle.verse_code_machine_laws.proofs.tasks_run.Goals as goal

pub returns : goal.returns
returns c = tasks_run
