use Rattle.verse_lower_defers.proofs.Whole.{accepted_defers}
use Rattle.verse_lower_defers.proofs.accepted_defers_show.Goals as goal

pub returns : goal.returns
returns c = accepted_defers c.nodes_in_order.ensures.nodes c.accepted_trees_are_shaped.ensures
    c.programs_are_fine.ensures c.fine_defers_show.ensures
