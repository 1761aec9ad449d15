use Rattle.lower_notes.proofs.Whole.{one_for_each}
use Rattle.lower_notes.proofs.one_for_each.Goals as goal

pub returns : goal.returns
returns c = one_for_each
