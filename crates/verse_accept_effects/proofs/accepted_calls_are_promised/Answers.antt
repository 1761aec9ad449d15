use Rattle.verse_accept_effects.proofs.Whole.{accepted_calls}
use Rattle.verse_accept_effects.proofs.accepted_calls_are_promised.Goals as goal

pub returns : goal.returns
returns c =
    accepted_calls c.nodes_in_order.ensures.nodes c.accepted_trees_are_shaped.ensures c.programs_are_fine.ensures
    c.calls_are_promised.ensures
