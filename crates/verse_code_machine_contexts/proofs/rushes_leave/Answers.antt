use Rattle.verse_code_machine_contexts.proofs.Ends.{rushes_leave}
use Rattle.verse_code_machine_contexts.proofs.rushes_leave.Goals as goal

pub returns : goal.returns
returns c = rushes_leave
