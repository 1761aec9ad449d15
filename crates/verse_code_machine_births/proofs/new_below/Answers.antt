use Rattle.verse_code_machine_births.proofs.Named.{new_below}
use Rattle.verse_code_machine_births.proofs.new_below.Goals as goal

pub returns : goal.returns
returns c = new_below
