use Rattle.verse_accept_fine.proofs.Whole.{calls_need}
use Rattle.verse_accept_fine.proofs.calls_need.Goals as goal

pub returns : goal.returns
returns c = calls_need
