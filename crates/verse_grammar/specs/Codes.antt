-- The kinds of toks by number, so that two can be compared.
use Rattle.std.specs.Prelude.{ℕ, ◌==◌, ℤ, pos, Bool, false, ◌&&◌, List, [], ◌∷◌}
use Rattle.std.specs.Ordering.{int_eq}
use Rattle.verse_lex.specs.declared.tokens.Word.{Word}
use Rattle.verse_lex.specs.declared.tokens.Word.TheVariants as w
use Rattle.verse_lex.specs.declared.tokens.Mark.{Mark}
use Rattle.verse_lex.specs.declared.tokens.Mark.TheVariants as m
use Rattle.verse_lex.specs.declared.tokens.TokenKind.{TokenKind}
use Rattle.verse_lex.specs.declared.tokens.TokenKind.TheVariants as token
use Rattle.verse_layout.specs.declared.toks.TokKind.{TokKind}
use Rattle.verse_layout.specs.declared.toks.TokKind.TheVariants as tok
use Rattle.verse_layout.specs.declared.toks.Tok.{Tok}

abbrev pub word_code : Word → ℕ
word_code w.Array = 20
word_code w.And = 21
word_code w.Block = 22
word_code w.Branch = 23
word_code w.Break = 24
word_code w.Case = 25
word_code w.Char = 26
word_code w.Class = 27
word_code w.Defer = 28
word_code w.Else = 29
word_code w.Enum = 30
word_code w.Event = 31
word_code w.False = 32
word_code w.For = 33
word_code w.If = 34
word_code w.Inf = 35
word_code w.Int = 36
word_code w.Logic = 37
word_code w.Loop = 38
word_code w.Map = 39
word_code w.Not = 40
word_code w.Option = 41
word_code w.Or = 42
word_code w.Race = 43
word_code w.Return = 44
word_code w.Rush = 45
word_code w.This = 46
word_code w.Set = 47
word_code w.Sleep = 48
word_code w.Spawn = 49
word_code w.String = 50
word_code w.Sync = 51
word_code w.Task = 52
word_code w.Then = 53
word_code w.True = 54
word_code w.Tuple = 55
word_code w.Using = 56
word_code w.Var = 57
word_code w.Void = 58
word_code w.Wild = 59

abbrev pub mark_code : Mark → ℕ
mark_code m.Define = 70
mark_code m.Colon = 71
mark_code m.FatArrow = 72
mark_code m.Equals = 73
mark_code m.Differs = 74
mark_code m.AtMost = 75
mark_code m.AtLeast = 76
mark_code m.Below = 77
mark_code m.Above = 78
mark_code m.PlusEquals = 79
mark_code m.Plus = 80
mark_code m.MinusEquals = 81
mark_code m.Arrow = 82
mark_code m.Minus = 83
mark_code m.TimesEquals = 84
mark_code m.Times = 85
mark_code m.Slash = 86
mark_code m.DotDot = 87
mark_code m.Dot = 88
mark_code m.Comma = 89
mark_code m.Semicolon = 90
mark_code m.RoundOpen = 91
mark_code m.RoundClose = 92
mark_code m.SquareOpen = 93
mark_code m.SquareClose = 94
mark_code m.BraceOpen = 95
mark_code m.BraceClose = 96
mark_code m.Question = 97

abbrev pub token_code : TokenKind → ℕ
token_code token.Name = 1
token_code (token.Word w) = word_code w
token_code token.LeftOut = 2
token_code (token.Int n) = 3
token_code (token.Dec n) = 4
token_code (token.Char n) = 5
token_code token.Text = 6
token_code token.TextOpen = 7
token_code token.TextMid = 8
token_code token.TextClose = 9
token_code (token.Mark m) = mark_code m

abbrev pub code : TokKind → ℕ
code (tok.Plain k) = token_code k
code tok.Open = 10
code tok.Sep = 11
code tok.Close = 12

-- the value of a literal
abbrev pub token_value : TokenKind → ℤ
token_value (token.Int n) = n
token_value (token.Dec n) = pos n
token_value (token.Char n) = pos n
token_value _ = pos 0

abbrev pub value : TokKind → ℤ
value (tok.Plain k) = token_value k
value _ = pos 0

abbrev pub is_same : TokKind → TokKind → Bool
is_same j k = (code j == code k) && int_eq (value j) (value k)

-- the first tok is of this kind
abbrev pub sees : TokKind → List Tok → Bool
sees kind [] = false
sees kind (k ∷ ks) = is_same k.kind kind
