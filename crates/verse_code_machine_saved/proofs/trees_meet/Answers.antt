use Rattle.verse_code_machine_saved.proofs.Paired.{trees_meet}
use Rattle.verse_code_machine_saved.proofs.trees_meet.Goals as goal

pub returns : goal.returns
returns c = trees_meet
