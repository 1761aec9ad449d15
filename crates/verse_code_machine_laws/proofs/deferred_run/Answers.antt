use Rattle.verse_code_machine_laws.proofs.Rows.{deferred_run}
use Rattle.verse_code_machine_laws.proofs.deferred_run.Goals as goal

pub returns : goal.returns
returns c = deferred_run
