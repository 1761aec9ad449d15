use Rattle.verse_verify_clean.proofs.Tables.{verified_notes}
use Rattle.verse_verify_clean.proofs.verified_notes_are_clean.Goals as goal

pub returns : goal.returns
returns c = verified_notes
