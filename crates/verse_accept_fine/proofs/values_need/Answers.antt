use Rattle.verse_accept_fine.proofs.Whole.{values_need}
use Rattle.verse_accept_fine.proofs.values_need.Goals as goal

pub returns : goal.returns
returns c = values_need
