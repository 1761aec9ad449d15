use Rattle.verse_grammar.proofs.SpelledLaws.{type_eaten}
use Rattle.verse_grammar.proofs.laws_spelled.types_eaten.Goals as goal

pub returns : goal.returns
returns c = type_eaten
