-- What the grammar sees of a tok.
use Rattle.std.specs.Prelude.{ℕ, ◌-◌, List, [], ◌∷◌, Option, Some, None, take, drop}
use Rattle.verse_lex.specs.Contents.{unescaped, between}
use Rattle.verse_lex.specs.declared.tokens.Word.{Word}
use Rattle.verse_lex.specs.declared.tokens.Mark.{Mark}
use Rattle.verse_lex.specs.declared.tokens.TokenKind.TheVariants as token
use Rattle.verse_layout.specs.declared.toks.TokKind.{TokKind}
use Rattle.verse_layout.specs.declared.toks.TokKind.TheVariants as tok
use Rattle.verse_layout.specs.declared.toks.Tok.{Tok}

abbrev pub word : Word → TokKind
word w = tok.Plain (token.Word w)

abbrev pub mark : Mark → TokKind
mark m = tok.Plain (token.Mark m)

abbrev pub name : TokKind
name = tok.Plain token.Name

-- the kind of the first tok
abbrev pub ahead : List Tok → Option TokKind
ahead [] = None
ahead (k ∷ ks) = Some k.kind

-- the bytes of the span of a name
abbrev pub name_at : List ℕ → Tok → List ℕ
name_at bs k = take (k.end - k.start) (drop k.start bs)

-- the bytes of a text or of a part of one, with escapes replaced
abbrev pub text_at : List ℕ → Tok → List ℕ
text_at bs k = unescaped (between bs k.start k.end)
