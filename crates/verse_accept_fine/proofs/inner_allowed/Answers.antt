use Rattle.verse_accept_fine.proofs.Whole.{inner_allowed}
use Rattle.verse_accept_fine.proofs.inner_allowed.Goals as goal

pub returns : goal.returns
returns c = inner_allowed
