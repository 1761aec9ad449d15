use Rattle.verse_accept_sound.proofs.Whole.{accepted_free}
use Rattle.verse_accept_sound.proofs.accepted_is_never_stuck.Goals as goal

pub returns : goal.returns
returns c = accepted_free c.nodes_in_order.ensures.nodes c.accepted_trees_are_shaped.ensures c.programs_are_fine.ensures
    c.never_stuck.ensures
