use Rattle.lower_notes.proofs.Rows.{writes_pass}
use Rattle.lower_notes.proofs.writes_pass.Goals as goal

pub returns : goal.returns
returns c = writes_pass
