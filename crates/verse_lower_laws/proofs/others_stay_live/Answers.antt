use Rattle.verse_lower_laws.proofs.Runs.{others_stay_live}
use Rattle.verse_lower_laws.proofs.others_stay_live.Goals as goal

pub returns : goal.returns
returns c = others_stay_live c.turns_are_the_same.ensures c.nothing_lost.ensures c.groups_wait.ensures
