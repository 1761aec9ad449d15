use Rattle.verse_lower_laws.proofs.Runs.{numbers_live_once}
use Rattle.verse_lower_laws.proofs.numbers_live_once.Goals as goal

pub returns : goal.returns
returns c = numbers_live_once c.turns_are_the_same.ensures c.numbers_once.ensures
