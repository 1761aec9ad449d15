use Rattle.verse_verify_bytes.proofs.Back.{written}
use Rattle.verse_verify_bytes.proofs.written_is_read.Goals as goal

pub returns : goal.returns
returns c = written
