use Rattle.verse_layout.proofs.Lexed.{lexed_lie}
use Rattle.verse_layout.proofs.laws.lexed_tokens_lie.Goals as goal

pub returns : goal.returns
returns c = lexed_lie
