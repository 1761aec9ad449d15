use Rattle.verse_code_machine_saved.proofs.Numbers.{since_renumbered}
use Rattle.verse_code_machine_saved.proofs.since_renumbered.Goals as goal

pub returns : goal.returns
returns c = since_renumbered
