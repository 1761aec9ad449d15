use Rattle.verse_verify_laws.proofs.Passed.{clean}
use Rattle.verse_verify_laws.proofs.clean_notes_are_verified.Goals as goal

pub returns : goal.returns
returns c = clean
