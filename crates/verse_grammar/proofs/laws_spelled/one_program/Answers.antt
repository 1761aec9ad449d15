use Rattle.verse_grammar.proofs.SpelledLaws.{one_program}
use Rattle.verse_grammar.proofs.laws_spelled.one_program.Goals as goal

pub returns : goal.returns
returns c = one_program
