use Rattle.verse_top_listing.proofs.Once.{assembles_once}
use Rattle.verse_top_listing.proofs.assembled_once.Goals as goal

pub returns : goal.returns
returns c = assembles_once
