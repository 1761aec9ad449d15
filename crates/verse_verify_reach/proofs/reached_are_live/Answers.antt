use Rattle.verse_verify_reach.proofs.Live.{reached_are_live}
use Rattle.verse_verify_reach.proofs.reached_are_live.Goals as goal

pub returns : goal.returns
returns c = reached_are_live
