use Rattle.verse_verify_laws.proofs.Passed.{passing}
use Rattle.verse_verify_laws.proofs.notes_that_pass.Goals as goal

pub returns : goal.returns
returns c = passing c.verified_is_never_stuck.ensures
