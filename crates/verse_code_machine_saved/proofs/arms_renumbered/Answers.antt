use Rattle.verse_code_machine_saved.proofs.Numbers.{arms_renumbered}
use Rattle.verse_code_machine_saved.proofs.arms_renumbered.Goals as goal

pub returns : goal.returns
returns c = arms_renumbered
