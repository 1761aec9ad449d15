use Rattle.verse_meaning.proofs.NumberingGoing.{numbers_once}
use Rattle.verse_meaning.proofs.numbers_once.Goals as goal

pub returns : goal.returns
returns c = numbers_once
