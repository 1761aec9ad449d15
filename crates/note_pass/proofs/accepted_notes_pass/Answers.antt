use Rattle.note_pass.proofs.Whole.{accepted_pass}
use Rattle.note_pass.proofs.accepted_notes_pass.Goals as goal

pub returns : goal.returns
returns c = accepted_pass c.nodes_in_order.ensures.nodes c.accepted_trees_are_shaped.ensures
    c.accepted_can_be_followed.ensures c.programs_are_fine.ensures c.tables_agree.ensures
