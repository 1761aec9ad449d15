use Rattle.verse_grammar.proofs.SpelledLaws.{program_eaten}
use Rattle.verse_grammar.proofs.laws_spelled.programs_eaten.Goals as goal

pub returns : goal.returns
returns c = program_eaten
