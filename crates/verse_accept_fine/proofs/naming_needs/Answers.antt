use Rattle.verse_accept_fine.proofs.Whole.{naming_needs}
use Rattle.verse_accept_fine.proofs.naming_needs.Goals as goal

pub returns : goal.returns
returns c = naming_needs
