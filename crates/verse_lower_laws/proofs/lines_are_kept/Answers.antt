use Rattle.verse_lower_laws.proofs.Runs.{lines_are_kept}
use Rattle.verse_lower_laws.proofs.lines_are_kept.Goals as goal

pub returns : goal.returns
returns c = lines_are_kept c.turns_are_the_same.ensures c.lines_stay.ensures
