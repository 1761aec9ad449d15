use Rattle.verse_code_machine_saved.proofs.Resumed.{steps_kept}
use Rattle.verse_code_machine_saved.proofs.steps_kept.Goals as goal

pub returns : goal.returns
returns c = steps_kept
