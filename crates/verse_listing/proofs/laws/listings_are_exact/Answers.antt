use Rattle.verse_listing.proofs.StageLaws.{listing_is}
use Rattle.verse_listing.proofs.StageAgain.{listing_again}
use Rattle.verse_listing.proofs.laws.listings_are_exact.Goals as goal

pub returns-clause-read_is_listed : goal.returns-clause-read_is_listed
returns-clause-read_is_listed c = listing_is

pub returns-clause-listed_is_read : goal.returns-clause-listed_is_read
returns-clause-listed_is_read c = listing_again
