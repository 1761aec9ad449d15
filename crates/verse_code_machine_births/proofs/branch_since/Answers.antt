use Rattle.verse_code_machine_births.proofs.Later.{branch_since}
use Rattle.verse_code_machine_births.proofs.branch_since.Goals as goal

pub returns : goal.returns
returns c = branch_since
