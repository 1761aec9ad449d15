use Rattle.std.proofs.Common.{length}
use Rattle.verse_expr.proofs.phrases.+phrase_at.Given as goal

abbrev pub decreases-phrase_at : goal.decreases-phrase_at
decreases-phrase_at l = length l.toks.now
