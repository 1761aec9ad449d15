use Rattle.verse_accept_scopes.proofs.Whole.{visits_are_sites}
use Rattle.verse_accept_scopes.proofs.visits_are_sites.Goals as goal

pub returns : goal.returns
returns c = visits_are_sites
