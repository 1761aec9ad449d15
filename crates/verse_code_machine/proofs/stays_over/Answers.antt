use Rattle.verse_code_machine.proofs.Whole.{stays_over}
use Rattle.verse_code_machine.proofs.stays_over.Goals as goal

pub returns : goal.returns
returns c = stays_over
