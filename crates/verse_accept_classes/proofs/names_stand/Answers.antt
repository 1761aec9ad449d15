use Rattle.verse_accept_classes.proofs.Tables.{names_stand}
use Rattle.verse_accept_classes.proofs.names_stand.Goals as goal

pub returns : goal.returns
returns c = names_stand
