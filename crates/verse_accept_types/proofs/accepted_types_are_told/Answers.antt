use Rattle.verse_accept_types.proofs.Whole.{accepted_types}
use Rattle.verse_accept_types.proofs.accepted_types_are_told.Goals as goal

pub returns : goal.returns
returns c = accepted_types c.accepted_trees_are_shaped.ensures
