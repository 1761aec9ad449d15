use Rattle.verse_meaning.proofs.WaitingGoing.{groups_wait}
use Rattle.verse_meaning.proofs.groups_wait.Goals as goal

pub returns : goal.returns
returns c = groups_wait
