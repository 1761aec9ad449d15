use Rattle.verse_accept_nodes.proofs.Accepted.{accepted_shaped}
use Rattle.verse_accept_nodes.proofs.accepted_trees_are_shaped.Goals as goal

pub returns : goal.returns
returns c = accepted_shaped c.spelled_is_shaped.ensures.programs c.numbered_is_shaped.ensures
