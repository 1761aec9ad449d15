use Rattle.verse_accept_classes.proofs.Tables.{functions_found}
use Rattle.verse_accept_classes.proofs.functions_found.Goals as goal

pub returns : goal.returns
returns c = functions_found
