use Rattle.verse_layout_laws.proofs.Seps.{seps_stand}
use Rattle.verse_layout_laws.proofs.laws.seps_stand.Goals as goal

pub returns : goal.returns
returns c = seps_stand
