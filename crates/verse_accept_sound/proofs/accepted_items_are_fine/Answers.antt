use Rattle.verse_accept_sound.proofs.Whole.{accepted_items}
use Rattle.verse_accept_sound.proofs.accepted_items_are_fine.Goals as goal

pub returns : goal.returns
returns c = accepted_items c.nodes_in_order.ensures.nodes c.accepted_trees_are_shaped.ensures c.programs_are_fine.ensures
