use Rattle.verse_meaning.proofs.Groups.{unfinished_goes_on}
use Rattle.verse_meaning.proofs.unfinished_goes_on.Goals as goal

pub returns : goal.returns
returns c = unfinished_goes_on
