use Rattle.verse_code_machine_saved.proofs.Acts.{operation_renumbered}
use Rattle.verse_code_machine_saved.proofs.operation_renumbered.Goals as goal

pub returns : goal.returns
returns c = operation_renumbered
