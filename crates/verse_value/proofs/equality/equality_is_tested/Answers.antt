use Rattle.verse_value.proofs.EqualityLaw.{equality_is_tested}
use Rattle.verse_value.proofs.equality.equality_is_tested.Goals as goal

pub returns : goal.returns
returns c = equality_is_tested
