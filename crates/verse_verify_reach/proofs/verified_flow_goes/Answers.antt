use Rattle.verse_verify_reach.proofs.Live.{verified_flow_goes}
use Rattle.verse_verify_reach.proofs.verified_flow_goes.Goals as goal

pub returns : goal.returns
returns c = verified_flow_goes
