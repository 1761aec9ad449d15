use Rattle.std.proofs.Common.{ℕ, ◌<◌, get_or}
use Rattle.verse_lex.specs.declared.tokens.Token.{Token}
use Rattle.verse_layout.specs.Cells.{Lies}
use Rattle.verse_layout_laws.proofs.tests.all_lie.Given as goal

abbrev pub invariant-tokens : goal.invariant-tokens
invariant-tokens l = (k : ℕ) (d : Token) → k < l.token-index → Lies l.bytes (get_or l.tokens k d)
