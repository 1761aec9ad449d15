use Rattle.verse_accept_nodes.proofs.Accepted.{accepted_stand}
use Rattle.verse_accept_nodes.proofs.accepted_nodes_stand.Goals as goal

pub returns : goal.returns
returns c = accepted_stand c.spelled_is_shaped.ensures.programs c.numbered_is_shaped.ensures
