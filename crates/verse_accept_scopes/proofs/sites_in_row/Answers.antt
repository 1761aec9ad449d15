use Rattle.verse_accept_scopes.proofs.Whole.{sites_in_row}
use Rattle.verse_accept_scopes.proofs.sites_in_row.Goals as goal

pub returns : goal.returns
returns c = sites_in_row
