use Rattle.verse_listing.proofs.RowLaws.{rows_hold}
use Rattle.verse_listing.proofs.laws.rows_hold.Goals as goal

pub returns : goal.returns
returns c = rows_hold
