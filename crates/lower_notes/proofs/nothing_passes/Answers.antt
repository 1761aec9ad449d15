use Rattle.lower_notes.proofs.Rows.{nothing_passes}
use Rattle.lower_notes.proofs.nothing_passes.Goals as goal

pub returns : goal.returns
returns c = nothing_passes
