use Rattle.verse_code_machine_laws.proofs.Rows.{cells_run}
use Rattle.verse_code_machine_laws.proofs.cells_run.Goals as goal

pub returns : goal.returns
returns c = cells_run
