use Rattle.verse_meaning.proofs.Contexts.{contexts_undo}
use Rattle.verse_meaning.proofs.contexts_undo.Goals as goal

pub returns : goal.returns
returns c = contexts_undo
