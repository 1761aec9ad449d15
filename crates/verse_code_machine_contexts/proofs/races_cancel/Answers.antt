use Rattle.verse_code_machine_contexts.proofs.Ends.{races_cancel}
use Rattle.verse_code_machine_contexts.proofs.races_cancel.Goals as goal

pub returns : goal.returns
returns c = races_cancel c.none_since.ensures c.cancelled_once.ensures
