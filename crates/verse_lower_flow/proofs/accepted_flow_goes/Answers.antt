use Rattle.verse_lower_flow.proofs.Whole.{accepted_flow}
use Rattle.verse_lower_flow.proofs.accepted_flow_goes.Goals as goal

pub returns : goal.returns
returns c = accepted_flow c.nodes_in_order.ensures.nodes c.accepted_trees_are_shaped.ensures
    c.accepted_nodes_stand.ensures c.programs_are_fine.ensures c.fine_flow_goes.ensures
