use Rattle.verse_code_machine_births.proofs.Later.{later_since}
use Rattle.verse_code_machine_births.proofs.later_since.Goals as goal

pub returns : goal.returns
returns c = later_since
