use Rattle.verse_lower_laws.proofs.Runs.{steps_are_bounded}
use Rattle.verse_lower_laws.proofs.steps_are_bounded.Goals as goal

pub returns : goal.returns
returns c = steps_are_bounded c.turns_are_the_same.ensures c.steps_counted.ensures
