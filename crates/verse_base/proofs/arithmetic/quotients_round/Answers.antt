use Rattle.verse_base.proofs.Residues.{rounds}
use Rattle.verse_base.proofs.arithmetic.quotients_round.Goals as goal

pub returns : goal.returns
returns c = rounds
