use Rattle.verse_top_verify.proofs.Once.{never_stuck}
use Rattle.verse_top_verify.proofs.passed_is_never_stuck.Goals as goal

pub returns : goal.returns
returns c = never_stuck c.notes_that_pass.ensures
