use Rattle.verse_top_listing.proofs.Once.{lists_once}
use Rattle.verse_top_listing.proofs.listed_once.Goals as goal

pub returns : goal.returns
returns c = lists_once
