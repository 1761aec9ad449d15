use Rattle.verse_accept_nodes.proofs.Accepted.{accepted_fit}
use Rattle.verse_accept_nodes.proofs.accepted_nodes_fit.Goals as goal

pub returns : goal.returns
returns c = accepted_fit
