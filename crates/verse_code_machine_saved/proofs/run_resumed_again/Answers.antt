use Rattle.verse_code_machine_saved.proofs.Resumed.{run_resumed_again}
use Rattle.verse_code_machine_saved.proofs.run_resumed_again.Goals as goal

pub returns : goal.returns
returns c = run_resumed_again
