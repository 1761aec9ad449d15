use Rattle.verse_grammar.proofs.SpelledLaws.{one_type}
use Rattle.verse_grammar.proofs.laws_spelled.one_type.Goals as goal

pub returns : goal.returns
returns c = one_type
