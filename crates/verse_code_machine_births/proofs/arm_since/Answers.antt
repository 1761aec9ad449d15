use Rattle.verse_code_machine_births.proofs.Later.{arm_since}
use Rattle.verse_code_machine_births.proofs.arm_since.Goals as goal

pub returns : goal.returns
returns c = arm_since
