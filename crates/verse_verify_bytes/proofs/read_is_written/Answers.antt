use Rattle.verse_verify_bytes.proofs.Spelling.{once}
use Rattle.verse_verify_bytes.proofs.read_is_written.Goals as goal

pub returns : goal.returns
returns c = once
