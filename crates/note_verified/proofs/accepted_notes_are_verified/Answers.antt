use Rattle.note_verified.proofs.Whole.{accepted_verified}
use Rattle.note_verified.proofs.accepted_notes_are_verified.Goals as goal

pub returns : goal.returns
returns c = accepted_verified c.accepted_sorts_are_spelled.ensures c.accepted_enums_are_numbered.ensures
    c.tables_agree.ensures c.nodes_in_order.ensures.nodes c.accepted_trees_are_shaped.ensures
    c.accepted_can_be_followed.ensures c.programs_are_fine.ensures c.code_is_valid.ensures
    c.accepted_notes_are_clean.ensures c.written_is_read.ensures
