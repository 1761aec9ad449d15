use Rattle.verse_code_machine_saved.proofs.Runs.{run_renumbered}
use Rattle.verse_code_machine_saved.proofs.run_renumbered.Goals as goal

pub returns : goal.returns
returns c = run_renumbered
