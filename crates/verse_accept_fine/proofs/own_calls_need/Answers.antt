use Rattle.verse_accept_fine.proofs.Whole.{own_calls_need}
use Rattle.verse_accept_fine.proofs.own_calls_need.Goals as goal

pub returns : goal.returns
returns c = own_calls_need
