use Rattle.verse_accept_fine.proofs.Whole.{method_calls_need}
use Rattle.verse_accept_fine.proofs.method_calls_need.Goals as goal

pub returns : goal.returns
returns c = method_calls_need
