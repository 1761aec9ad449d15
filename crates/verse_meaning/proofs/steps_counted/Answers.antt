use Rattle.verse_meaning.proofs.Counting.{steps_counted}
use Rattle.verse_meaning.proofs.steps_counted.Goals as goal

pub returns : goal.returns
returns c = steps_counted
