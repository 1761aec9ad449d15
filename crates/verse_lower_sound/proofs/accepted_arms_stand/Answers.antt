use Rattle.verse_lower_sound.proofs.Whole.{accepted_arms}
use Rattle.verse_lower_sound.proofs.accepted_arms_stand.Goals as goal

pub returns : goal.returns
returns c = accepted_arms c.nodes_in_order.ensures.nodes c.accepted_trees_are_shaped.ensures
    c.accepted_nodes_stand.ensures
    c.programs_are_fine.ensures c.fine_arms_stand.ensures
