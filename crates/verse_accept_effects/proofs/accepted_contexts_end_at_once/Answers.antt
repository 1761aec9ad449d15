use Rattle.verse_accept_effects.proofs.Whole.{accepted_contexts}
use Rattle.verse_accept_effects.proofs.accepted_contexts_end_at_once.Goals as goal

pub returns : goal.returns
returns c =
    accepted_contexts c.nodes_in_order.ensures.nodes c.accepted_trees_are_shaped.ensures c.programs_are_fine.ensures
    c.contexts_end_at_once.ensures
