use Rattle.verse_code_machine_parents.proofs.Cancelled.{cancelled_once}
use Rattle.verse_code_machine_parents.proofs.cancelled_once.Goals as goal

pub returns : goal.returns
returns c = cancelled_once
