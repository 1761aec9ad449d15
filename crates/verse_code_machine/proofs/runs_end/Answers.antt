use Rattle.verse_code_machine.proofs.Whole.{runs_end}
use Rattle.verse_code_machine.proofs.runs_end.Goals as goal

pub returns : goal.returns
returns c = runs_end
