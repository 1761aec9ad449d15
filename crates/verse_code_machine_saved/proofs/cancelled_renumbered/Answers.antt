use Rattle.verse_code_machine_saved.proofs.Numbers.{cancelled_renumbered}
use Rattle.verse_code_machine_saved.proofs.cancelled_renumbered.Goals as goal

pub returns : goal.returns
returns c = cancelled_renumbered
