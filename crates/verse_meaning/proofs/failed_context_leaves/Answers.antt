use Rattle.verse_meaning.proofs.Standing.{failed_context_leaves}
use Rattle.verse_meaning.proofs.failed_context_leaves.Goals as goal

pub returns : goal.returns
returns c = failed_context_leaves
