use Rattle.lower_code_defers.proofs.Whole.{fine_defers_show}
use Rattle.lower_code_defers.proofs.fine_defers_show.Goals as goal

pub returns : goal.returns
returns c = fine_defers_show
