use Rattle.verse_code_machine_saved.proofs.Resumed.{run_resumed}
use Rattle.verse_code_machine_saved.proofs.run_resumed.Goals as goal

pub returns : goal.returns
returns c = run_resumed c.runs_end.ensures
