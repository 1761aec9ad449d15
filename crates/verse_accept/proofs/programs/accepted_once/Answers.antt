use Rattle.verse_accept.proofs.Answered.{one_front_end}
use Rattle.verse_accept.proofs.programs.accepted_once.Goals as goal

pub returns : goal.returns
returns c = one_front_end
