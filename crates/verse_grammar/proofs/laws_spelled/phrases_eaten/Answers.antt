use Rattle.verse_grammar.proofs.SpelledLaws.{phrase_eaten, spelled_eaten}
use Rattle.verse_grammar.proofs.laws_spelled.phrases_eaten.Goals as goal

pub returns : goal.returns
returns c = record { before = phrase_eaten; whole = spelled_eaten }
