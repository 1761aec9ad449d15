use Rattle.verse_code_machine_parents.proofs.Running.{run_roots}
use Rattle.verse_code_machine_parents.proofs.run_roots.Goals as goal

pub returns : goal.returns
returns c = run_roots
