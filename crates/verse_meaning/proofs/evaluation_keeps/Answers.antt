use Rattle.verse_meaning.proofs.Standing.{evaluation_keeps}
use Rattle.verse_meaning.proofs.evaluation_keeps.Goals as goal

pub returns : goal.returns
returns c = evaluation_keeps
