use Rattle.verse_accept_classes.proofs.Bodies.{fields_found}
use Rattle.verse_accept_classes.proofs.fields_found.Goals as goal

pub returns : goal.returns
returns c = fields_found
