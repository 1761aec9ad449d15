-- Which rule a tok breaks with which nothing goes on.
use Rattle.std.specs.Prelude.{ℕ, Option, Some}
use Rattle.verse_lex.specs.declared.tokens.TokenKind.TheVariants as token
use Rattle.verse_layout.specs.declared.toks.TokKind.{TokKind}
use Rattle.verse_layout.specs.declared.toks.TokKind.TheVariants as tok

-- E069 where it is left out of the language, and otherwise E030, at the end too
abbrev pub stop_rule : Option TokKind → ℕ
stop_rule (Some (tok.Plain token.LeftOut)) = 69
stop_rule _ = 30
