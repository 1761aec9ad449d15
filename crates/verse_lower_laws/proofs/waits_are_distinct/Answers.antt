use Rattle.verse_lower_laws.proofs.Runs.{waits_are_distinct}
use Rattle.verse_lower_laws.proofs.waits_are_distinct.Goals as goal

pub returns : goal.returns
returns c = waits_are_distinct c.turns_are_the_same.ensures c.numbers_once.ensures
