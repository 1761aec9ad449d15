use Rattle.verse_code_machine_saved.proofs.Spreading.{numberings_meet}
use Rattle.verse_code_machine_saved.proofs.numberings_meet.Goals as goal

pub returns : goal.returns
returns c = numberings_meet
