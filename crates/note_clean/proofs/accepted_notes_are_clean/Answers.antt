use Rattle.note_clean.proofs.Whole.{accepted_clean}
use Rattle.note_clean.proofs.accepted_notes_are_clean.Goals as goal

pub returns : goal.returns
returns c = accepted_clean c.nodes_in_order.ensures.nodes c.accepted_trees_are_shaped.ensures
    c.accepted_can_be_followed.ensures c.programs_are_fine.ensures c.tables_agree.ensures c.code_is_valid.ensures
