use Rattle.verse_code_machine_endings.proofs.Runs.{runs_end_so_from}
use Rattle.verse_code_machine_endings.proofs.runs_end_so_from.Goals as goal

pub returns : goal.returns
returns c = runs_end_so_from
