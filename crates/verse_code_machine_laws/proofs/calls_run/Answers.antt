use Rattle.verse_code_machine_laws.proofs.Rows.{calls_run}
use Rattle.verse_code_machine_laws.proofs.calls_run.Goals as goal

pub returns : goal.returns
returns c = calls_run
