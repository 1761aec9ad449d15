use Rattle.lower_notes.proofs.Rows.{loops_pass}
use Rattle.lower_notes.proofs.loops_pass.Goals as goal

pub returns : goal.returns
returns c = loops_pass
