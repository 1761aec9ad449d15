use Rattle.verse_meaning.proofs.Groups.{groups_settle}
use Rattle.verse_meaning.proofs.groups_settle.Goals as goal

pub returns : goal.returns
returns c = groups_settle
