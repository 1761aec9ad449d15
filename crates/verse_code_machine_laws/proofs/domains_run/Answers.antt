use Rattle.verse_code_machine_laws.proofs.Rows.{domains_run}
use Rattle.verse_code_machine_laws.proofs.domains_run.Goals as goal

pub returns : goal.returns
returns c = domains_run
