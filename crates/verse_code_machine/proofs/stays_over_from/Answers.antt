use Rattle.verse_code_machine.proofs.Goings.{stays_over_from}
use Rattle.verse_code_machine.proofs.stays_over_from.Goals as goal

pub returns : goal.returns
returns c = stays_over_from
