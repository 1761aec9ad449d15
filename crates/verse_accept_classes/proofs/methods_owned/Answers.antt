use Rattle.verse_accept_classes.proofs.Tables.{methods_owned}
use Rattle.verse_accept_classes.proofs.methods_owned.Goals as goal

pub returns : goal.returns
returns c = methods_owned
