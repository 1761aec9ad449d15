use Rattle.verse_code_machine_contexts.proofs.Contexts.{contexts_undo}
use Rattle.verse_code_machine_contexts.proofs.contexts_undo.Goals as goal

pub returns : goal.returns
returns c = contexts_undo c.none_since.ensures
