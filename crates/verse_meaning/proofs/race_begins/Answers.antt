use Rattle.verse_meaning.proofs.Groups.{race_begins}
use Rattle.verse_meaning.proofs.race_begins.Goals as goal

pub returns : goal.returns
returns c = race_begins
