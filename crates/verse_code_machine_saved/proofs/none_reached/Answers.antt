use Rattle.verse_code_machine_saved.proofs.Reached.{none_reached}
use Rattle.verse_code_machine_saved.proofs.none_reached.Goals as goal

pub returns : goal.returns
returns c = none_reached
