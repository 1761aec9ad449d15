use Rattle.verse_code_machine.proofs.Goings.{run_belongs_from}
use Rattle.verse_code_machine.proofs.run_belongs_from.Goals as goal

pub returns : goal.returns
returns c = run_belongs_from
