use Rattle.verse_meaning.proofs.Groups.{going_keeps}
use Rattle.verse_meaning.proofs.going_keeps.Goals as goal

pub returns : goal.returns
returns c = going_keeps
