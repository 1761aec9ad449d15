use Rattle.std.proofs.Common.{length}
use Rattle.verse_base.specs.declared.limits.TheConstants.{MOST_FILE_BYTES}
use Rattle.verse_lex.specs.Cut.{IsBounded}
use Rattle.verse_lex.proofs.Pushes.{Reached}
use Rattle.verse_lex.proofs.lexer.cut.Given as goal

abbrev pub invariant-pieces : goal.invariant-pieces
invariant-pieces l = Reached l.file l.bytes l.tokens.items l.here l.rest × IsBounded l.here l.rest MOST_FILE_BYTES

abbrev pub decreases-pieces : goal.decreases-pieces
decreases-pieces l = length l.rest
