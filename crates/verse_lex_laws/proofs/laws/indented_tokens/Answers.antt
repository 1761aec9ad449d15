use Rattle.verse_lex_laws.proofs.Indented.{tokens_indented}
use Rattle.verse_lex_laws.proofs.laws.indented_tokens.Goals as goal

pub returns : goal.returns
returns c = tokens_indented
