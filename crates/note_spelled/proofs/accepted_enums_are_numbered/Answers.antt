use Rattle.note_spelled.proofs.Whole.{accepted_enums}
use Rattle.note_spelled.proofs.accepted_enums_are_numbered.Goals as goal

pub returns : goal.returns
returns c = accepted_enums c.accepted_types_are_told.ensures
