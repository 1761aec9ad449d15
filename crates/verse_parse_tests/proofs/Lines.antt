-- The tokens of a file meet what their layout needs.
use Rattle.std.proofs.Common.{ℕ, List, length, All}
use Rattle.verse_lex.specs.declared.tokens.Token.{Token}
use Rattle.verse_lex.specs.Cut.{AreTokens, Rise}
use Rattle.verse_layout.specs.Cells.{Lies}
use Rattle.verse_layout.proofs.Lexed.{lexed_lie}

pub lies : (bytes : List ℕ) (ts : List Token) → AreTokens 0 bytes ts → Rise 0 ts (length bytes) → All (Lies bytes) ts
lies bytes ts a r = lexed_lie 0 bytes ts a r
