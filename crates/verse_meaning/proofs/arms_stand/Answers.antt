use Rattle.verse_meaning.proofs.Groups.{arms_stand}
use Rattle.verse_meaning.proofs.arms_stand.Goals as goal

pub returns : goal.returns
returns c = arms_stand
