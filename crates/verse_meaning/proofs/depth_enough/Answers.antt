use Rattle.verse_meaning.proofs.AgreeingGoing.{depth_enough}
use Rattle.verse_meaning.proofs.depth_enough.Goals as goal

pub returns : goal.returns
returns c = depth_enough
