use Rattle.verse_code_machine.proofs.BelongingRuns.{run_belongs}
use Rattle.verse_code_machine.proofs.run_belongs.Goals as goal

pub returns : goal.returns
returns c = run_belongs
