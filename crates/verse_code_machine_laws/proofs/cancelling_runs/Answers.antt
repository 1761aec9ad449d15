use Rattle.verse_code_machine_laws.proofs.Rows.{cancelling_runs}
use Rattle.verse_code_machine_laws.proofs.cancelling_runs.Goals as goal

pub returns : goal.returns
returns c = cancelling_runs
