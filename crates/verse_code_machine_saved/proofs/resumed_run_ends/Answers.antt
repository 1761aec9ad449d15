use Rattle.verse_code_machine_saved.proofs.Resumed.{resumed_run_ends}
use Rattle.verse_code_machine_saved.proofs.resumed_run_ends.Goals as goal

pub returns : goal.returns
returns c = resumed_run_ends c.runs_end.ensures
