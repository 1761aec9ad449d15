use Rattle.verse_code_machine_births.proofs.Runs.{operation_births}
use Rattle.verse_code_machine_births.proofs.operation_births.Goals as goal

pub returns : goal.returns
returns c = operation_births
