use Rattle.verse_image.proofs.NumberLaws.{read_is_spelled, spelled_is_read, signed_is_spelled, signed_is_read}
use Rattle.verse_image.proofs.laws.numbers_are_exact.Goals as goal

pub returns-clause-read_is_spelled : goal.returns-clause-read_is_spelled
returns-clause-read_is_spelled c = read_is_spelled

pub returns-clause-spelled_is_read : goal.returns-clause-spelled_is_read
returns-clause-spelled_is_read c = spelled_is_read

pub returns-clause-signed_is_spelled : goal.returns-clause-signed_is_spelled
returns-clause-signed_is_spelled c = signed_is_spelled

pub returns-clause-signed_is_read : goal.returns-clause-signed_is_read
returns-clause-signed_is_read c = signed_is_read
