use Rattle.verse_code_machine_laws.proofs.Rows.{attempts_run}
use Rattle.verse_code_machine_laws.proofs.attempts_run.Goals as goal

pub returns : goal.returns
returns c = attempts_run
