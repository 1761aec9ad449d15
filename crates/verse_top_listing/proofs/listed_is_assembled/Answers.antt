use Rattle.verse_top_listing.proofs.Once.{listed_assembled}
use Rattle.verse_top_listing.proofs.listed_is_assembled.Goals as goal

pub returns : goal.returns
returns c = listed_assembled
