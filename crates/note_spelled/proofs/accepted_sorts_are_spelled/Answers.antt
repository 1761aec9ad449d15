use Rattle.note_spelled.proofs.Whole.{accepted_spelled}
use Rattle.note_spelled.proofs.accepted_sorts_are_spelled.Goals as goal

pub returns : goal.returns
returns c = accepted_spelled c.accepted_types_are_told.ensures
