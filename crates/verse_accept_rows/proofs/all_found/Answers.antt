use Rattle.verse_accept_rows.proofs.Whole.{all_found}
use Rattle.verse_accept_rows.proofs.all_found.Goals as goal

pub returns : goal.returns
returns c = all_found
