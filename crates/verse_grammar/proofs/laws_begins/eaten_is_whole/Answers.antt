use Rattle.verse_grammar.proofs.Completing.{eaten_is_whole}
use Rattle.verse_grammar.proofs.laws_begins.eaten_is_whole.Goals as goal

pub returns : goal.returns
returns c = eaten_is_whole
