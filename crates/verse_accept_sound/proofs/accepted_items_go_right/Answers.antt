use Rattle.verse_accept_sound.proofs.Whole.{right_items}
use Rattle.verse_accept_sound.proofs.accepted_items_go_right.Goals as goal

pub returns : goal.returns
returns c = right_items c.nodes_in_order.ensures.nodes c.accepted_trees_are_shaped.ensures c.programs_are_fine.ensures
    c.turns_go_right.ensures
