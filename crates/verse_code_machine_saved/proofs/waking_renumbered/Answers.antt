use Rattle.verse_code_machine_saved.proofs.Ends.{waking_renumbered}
use Rattle.verse_code_machine_saved.proofs.waking_renumbered.Goals as goal

pub returns : goal.returns
returns c = waking_renumbered
