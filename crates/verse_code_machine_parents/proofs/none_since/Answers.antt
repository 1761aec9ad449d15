use Rattle.verse_code_machine_parents.proofs.Cancelled.{nothing_since}
use Rattle.verse_code_machine_parents.proofs.none_since.Goals as goal

pub returns : goal.returns
returns c = nothing_since
