use Rattle.verse_code_machine_endings.proofs.Runs.{runs_end_so}
use Rattle.verse_code_machine_endings.proofs.runs_end_so.Goals as goal

pub returns : goal.returns
returns c = runs_end_so
