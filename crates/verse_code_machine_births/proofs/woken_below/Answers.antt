use Rattle.verse_code_machine_births.proofs.Named.{woken_below}
use Rattle.verse_code_machine_births.proofs.woken_below.Goals as goal

pub returns : goal.returns
returns c = woken_below
