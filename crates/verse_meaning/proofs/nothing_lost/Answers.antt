use Rattle.verse_meaning.proofs.Losing.{nothing_lost}
use Rattle.verse_meaning.proofs.nothing_lost.Goals as goal

pub returns : goal.returns
returns c = nothing_lost
