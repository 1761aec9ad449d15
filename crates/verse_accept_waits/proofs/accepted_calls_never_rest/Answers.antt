use Rattle.verse_accept_waits.proofs.Whole.{accepted_never_rest}
use Rattle.verse_accept_waits.proofs.accepted_calls_never_rest.Goals as goal

pub returns : goal.returns
returns c =
    accepted_never_rest c.nodes_in_order.ensures.nodes c.accepted_trees_are_shaped.ensures c.programs_are_fine.ensures
    c.inner_allowed.ensures c.calls_never_rest.ensures
