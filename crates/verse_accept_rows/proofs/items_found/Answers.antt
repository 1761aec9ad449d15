use Rattle.verse_accept_rows.proofs.Whole.{items_found}
use Rattle.verse_accept_rows.proofs.items_found.Goals as goal

pub returns : goal.returns
returns c = items_found
