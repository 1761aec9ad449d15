use Rattle.verse_grammar.proofs.Completing.{stuck_begins}
use Rattle.verse_grammar.proofs.laws_begins.stuck_begins.Goals as goal

pub returns : goal.returns
returns c = stuck_begins
