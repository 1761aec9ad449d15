use Rattle.verse_meaning.proofs.Backwards.{cancelling_leaves}
use Rattle.verse_meaning.proofs.cancelling_leaves.Goals as goal

pub returns : goal.returns
returns c = cancelling_leaves
