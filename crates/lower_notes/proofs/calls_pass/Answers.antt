use Rattle.lower_notes.proofs.Rows.{calls_pass}
use Rattle.lower_notes.proofs.calls_pass.Goals as goal

pub returns : goal.returns
returns c = calls_pass
