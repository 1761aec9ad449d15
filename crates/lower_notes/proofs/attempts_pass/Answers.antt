use Rattle.lower_notes.proofs.Rows.{attempts_pass}
use Rattle.lower_notes.proofs.attempts_pass.Goals as goal

pub returns : goal.returns
returns c = attempts_pass
