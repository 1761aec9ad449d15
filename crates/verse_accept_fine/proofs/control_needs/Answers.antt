use Rattle.verse_accept_fine.proofs.Whole.{control_needs}
use Rattle.verse_accept_fine.proofs.control_needs.Goals as goal

pub returns : goal.returns
returns c = control_needs
