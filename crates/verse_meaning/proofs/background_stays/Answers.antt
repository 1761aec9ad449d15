use Rattle.verse_meaning.proofs.Standing.{background_stays}
use Rattle.verse_meaning.proofs.background_stays.Goals as goal

pub returns : goal.returns
returns c = background_stays
