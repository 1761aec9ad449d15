use Rattle.verse_accept_scopes.proofs.Whole.{walked_are_sites}
use Rattle.verse_accept_scopes.proofs.walked_are_sites.Goals as goal

pub returns : goal.returns
returns c = walked_are_sites
