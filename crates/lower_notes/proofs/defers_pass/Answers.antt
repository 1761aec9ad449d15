use Rattle.lower_notes.proofs.Rows.{defers_pass}
use Rattle.lower_notes.proofs.defers_pass.Goals as goal

pub returns : goal.returns
returns c = defers_pass
