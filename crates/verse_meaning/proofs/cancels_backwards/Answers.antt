use Rattle.verse_meaning.proofs.Backwards.{cancels_backwards}
use Rattle.verse_meaning.proofs.cancels_backwards.Goals as goal

pub returns : goal.returns
returns c = cancels_backwards
