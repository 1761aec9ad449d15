use Rattle.verse_verify_kept.proofs.NeverStuck.{never_stuck}
use Rattle.verse_verify_kept.proofs.verified_is_never_stuck.Goals as goal

pub returns : goal.returns
returns c = never_stuck c.runs_end.ensures
