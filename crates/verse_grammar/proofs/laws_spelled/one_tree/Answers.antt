use Rattle.verse_grammar.proofs.SpelledLaws.{one_phrase, one_tree}
use Rattle.verse_grammar.proofs.laws_spelled.one_tree.Goals as goal

pub returns : goal.returns
returns c = record { before = one_phrase; whole = one_tree }
