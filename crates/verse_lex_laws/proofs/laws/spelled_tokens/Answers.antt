use Rattle.verse_lex_laws.proofs.Files.{tokens_spelled, texts_mean}
use Rattle.verse_lex_laws.proofs.laws.spelled_tokens.Goals as goal

pub returns : goal.returns
returns c = record { tokens = tokens_spelled; texts = texts_mean }
