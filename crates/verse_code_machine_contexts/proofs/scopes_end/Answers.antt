use Rattle.verse_code_machine_contexts.proofs.Ends.{scopes_end}
use Rattle.verse_code_machine_contexts.proofs.scopes_end.Goals as goal

pub returns : goal.returns
returns c = scopes_end c.none_since.ensures c.cancelled_once.ensures
