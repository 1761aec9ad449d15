use Rattle.lower_bounds.proofs.Defers.{defers_show}
use Rattle.lower_bounds.proofs.defers_show.Goals as goal

pub returns : goal.returns
returns c = defers_show
