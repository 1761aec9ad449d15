use Rattle.lower_bounds.proofs.Defers.{files_stand}
use Rattle.lower_bounds.proofs.files_stand.Goals as goal

pub returns : goal.returns
returns c = files_stand
