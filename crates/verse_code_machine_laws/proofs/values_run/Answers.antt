use Rattle.verse_code_machine_laws.proofs.Rows.{values_run}
use Rattle.verse_code_machine_laws.proofs.values_run.Goals as goal

pub returns : goal.returns
returns c = values_run
