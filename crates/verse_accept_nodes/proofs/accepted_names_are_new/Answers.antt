use Rattle.verse_accept_nodes.proofs.Accepted.{accepted_names}
use Rattle.verse_accept_nodes.proofs.accepted_names_are_new.Goals as goal

pub returns : goal.returns
returns c = accepted_names
