use Rattle.verse_code_machine.proofs.Goings.{runs_end_from}
use Rattle.verse_code_machine.proofs.runs_end_from.Goals as goal

pub returns : goal.returns
returns c = runs_end_from
