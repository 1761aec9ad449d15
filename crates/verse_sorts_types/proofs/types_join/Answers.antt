use Rattle.verse_sorts_types.proofs.Joining.{join_both}
use Rattle.verse_sorts_types.proofs.types_join.Goals as goal

pub returns : goal.returns
returns c = join_both
