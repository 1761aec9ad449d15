use Rattle.verse_meaning.proofs.Standing.{race_cancels}
use Rattle.verse_meaning.proofs.race_cancels.Goals as goal

pub returns : goal.returns
returns c = race_cancels
