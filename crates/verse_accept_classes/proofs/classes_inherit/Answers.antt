use Rattle.verse_accept_classes.proofs.Tables.{classes_inherit}
use Rattle.verse_accept_classes.proofs.classes_inherit.Goals as goal

pub returns : goal.returns
returns c = classes_inherit
