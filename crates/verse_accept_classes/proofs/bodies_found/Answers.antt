use Rattle.verse_accept_classes.proofs.Bodies.{bodies_found}
use Rattle.verse_accept_classes.proofs.bodies_found.Goals as goal

pub returns : goal.returns
returns c = bodies_found
