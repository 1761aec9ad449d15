use Rattle.verse_top_resume.proofs.Once.{once}
use Rattle.verse_top_resume.proofs.resuming.resumed_once.Goals as goal

pub returns : goal.returns
returns c = once
