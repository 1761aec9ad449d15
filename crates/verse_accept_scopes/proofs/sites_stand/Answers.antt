use Rattle.verse_accept_scopes.proofs.Whole.{sites_stand}
use Rattle.verse_accept_scopes.proofs.sites_stand.Goals as goal

pub returns : goal.returns
returns c = sites_stand
