use Rattle.verse_top_verify.proofs.Once.{verifies_once}
use Rattle.verse_top_verify.proofs.verified_once.Goals as goal

pub returns : goal.returns
returns c = verifies_once
