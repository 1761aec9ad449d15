use Rattle.verse_meaning.proofs.Standing.{forest_stays}
use Rattle.verse_meaning.proofs.forest_stays.Goals as goal

pub returns : goal.returns
returns c = forest_stays
