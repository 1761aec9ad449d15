use Rattle.lower_notes.proofs.Rows.{values_pass}
use Rattle.lower_notes.proofs.values_pass.Goals as goal

pub returns : goal.returns
returns c = values_pass
