use Rattle.verse_meaning.proofs.Counting.{lines_stay}
use Rattle.verse_meaning.proofs.lines_stay.Goals as goal

pub returns : goal.returns
returns c = lines_stay
