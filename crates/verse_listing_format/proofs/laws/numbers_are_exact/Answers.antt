use Rattle.verse_listing_format.proofs.NumberWords.{number_written, number_read}
use Rattle.verse_listing_format.proofs.laws.numbers_are_exact.Goals as goal

pub returns-clause-written_is_read : goal.returns-clause-written_is_read
returns-clause-written_is_read c = number_written

pub returns-clause-read_is_written : goal.returns-clause-read_is_written
returns-clause-read_is_written c = number_read
