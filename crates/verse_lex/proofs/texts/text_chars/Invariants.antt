use Rattle.std.proofs.Common.{◌≡◌, ◌+◌, length}
use Rattle.verse_lex.specs.Texts.{further, text_chars}
use Rattle.verse_lex.proofs.texts.text_chars.Given as goal

abbrev pub invariant-chars : goal.invariant-chars
invariant-chars l = (further l.count (text_chars l.rest) ≡ text_chars l.bytes) × (l.count + length l.rest ≡ length l.bytes)

abbrev pub decreases-chars : goal.decreases-chars
decreases-chars l = length l.rest
