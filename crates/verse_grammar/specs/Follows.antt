-- What may stand behind a phrase, and what a phrase may begin with, by numbers.
use Rattle.std.specs.Prelude.{ℕ, Bool, nat_le, Option, Some, None}
use Rattle.verse_lex.specs.declared.tokens.Word.TheVariants as w
use Rattle.verse_lex.specs.declared.tokens.Mark.TheVariants as m
use Rattle.verse_lex.specs.declared.tokens.TokenKind.TheVariants as token
use Rattle.verse_layout.specs.declared.toks.TokKind.{TokKind}
use Rattle.verse_layout.specs.declared.toks.TokKind.TheVariants as tok
use Rattle.verse_grammar.specs.declared.phrases.Phrase.{Phrase}
use Rattle.verse_grammar.specs.declared.phrases.Phrase.TheVariants as p

-- how closely a tok binds to what stands before it: 0 the closest, 9 not at all
abbrev pub rank : TokKind → ℕ
rank tok.Open = 0
rank (tok.Plain (token.Mark m.RoundOpen)) = 1
rank (tok.Plain (token.Mark m.SquareOpen)) = 1
rank (tok.Plain (token.Mark m.Dot)) = 1
rank (tok.Plain (token.Mark m.Question)) = 1
rank (tok.Plain (token.Mark m.Times)) = 2
rank (tok.Plain (token.Mark m.Slash)) = 2
rank (tok.Plain (token.Mark m.Plus)) = 3
rank (tok.Plain (token.Mark m.Minus)) = 3
rank (tok.Plain (token.Mark m.Equals)) = 4
rank (tok.Plain (token.Mark m.Differs)) = 4
rank (tok.Plain (token.Mark m.Below)) = 4
rank (tok.Plain (token.Mark m.AtMost)) = 4
rank (tok.Plain (token.Mark m.Above)) = 4
rank (tok.Plain (token.Mark m.AtLeast)) = 4
rank (tok.Plain (token.Word w.And)) = 5
rank (tok.Plain (token.Word w.Or)) = 6
rank (tok.Plain (token.Word w.Else)) = 7
rank (tok.Plain (token.Mark m.PlusEquals)) = 8
rank (tok.Plain (token.Mark m.MinusEquals)) = 8
rank (tok.Plain (token.Mark m.TimesEquals)) = 8
rank (tok.Plain (token.Mark m.Define)) = 8
rank (tok.Plain (token.Mark m.Colon)) = 8
rank (tok.Plain (token.Mark m.Arrow)) = 8
rank (tok.Plain (token.Mark m.FatArrow)) = 8
rank (tok.Plain (token.Mark m.DotDot)) = 8
rank (tok.Plain (token.Mark m.RoundClose)) = 9
rank (tok.Plain (token.Mark m.SquareClose)) = 9
rank (tok.Plain (token.Mark m.Comma)) = 9
rank (tok.Plain token.TextMid) = 9
rank (tok.Plain token.TextClose) = 9
rank tok.Sep = 9
rank tok.Close = 9
rank _ = 8

-- the same for the first tok; the end binds to nothing
abbrev pub rank_ahead : Option TokKind → ℕ
rank_ahead None = 9
rank_ahead (Some k) = rank k

-- behind a phrase stands a tok of this rank or above
abbrev pub needs : Phrase → ℕ
needs p.Block = 0
needs p.Primary = 1
needs p.Postfix = 2
needs p.Minus = 2
needs p.Product = 3
needs p.Sum = 4
needs p.Generator = 4
needs p.Comparison = 5
needs p.Not = 5
needs p.And = 6
needs p.Or = 7
needs p.Expr = 8
needs p.Body = 8
needs p.Arm = 8
needs p.Pattern = 0
needs p.Stmt = 9
needs p.Part = 9
needs p.Clause = 9

-- this tok, or the end, may stand behind the phrase
abbrev pub may_follow : Phrase → Option TokKind → Bool
may_follow q k = nat_le (needs q) (rank_ahead k)

-- what kind of phrase a tok begins: 0 a primary form, 7 none
abbrev pub rise : TokKind → ℕ
rise (tok.Plain (token.Int n)) = 0
rise (tok.Plain (token.Char n)) = 0
rise (tok.Plain token.Text) = 0
rise (tok.Plain token.TextOpen) = 0
rise (tok.Plain token.Name) = 0
rise (tok.Plain (token.Mark m.RoundOpen)) = 0
rise (tok.Plain (token.Word w.True)) = 0
rise (tok.Plain (token.Word w.False)) = 0
rise (tok.Plain (token.Word w.This)) = 0
rise (tok.Plain (token.Word w.Array)) = 0
rise (tok.Plain (token.Word w.Map)) = 0
rise (tok.Plain (token.Word w.Option)) = 0
rise (tok.Plain (token.Word w.Logic)) = 0
rise (tok.Plain (token.Word w.Event)) = 0
rise (tok.Plain (token.Word w.For)) = 0
rise (tok.Plain (token.Word w.Loop)) = 0
rise (tok.Plain (token.Word w.Block)) = 0
rise (tok.Plain (token.Word w.Branch)) = 0
rise (tok.Plain (token.Word w.Sync)) = 0
rise (tok.Plain (token.Word w.Race)) = 0
rise (tok.Plain (token.Word w.Rush)) = 0
rise (tok.Plain (token.Word w.Case)) = 0
rise (tok.Plain (token.Word w.Spawn)) = 0
rise (tok.Plain (token.Word w.Sleep)) = 0
rise (tok.Plain (token.Mark m.Minus)) = 1
rise (tok.Plain (token.Word w.Not)) = 2
rise (tok.Plain (token.Word w.If)) = 3
rise tok.Open = 4
rise (tok.Plain (token.Word w.Var)) = 5
rise (tok.Plain (token.Word w.Set)) = 5
rise (tok.Plain (token.Word w.Return)) = 5
rise (tok.Plain (token.Word w.Break)) = 5
rise (tok.Plain (token.Word w.Defer)) = 6
rise _ = 7

abbrev pub rise_ahead : Option TokKind → ℕ
rise_ahead None = 7
rise_ahead (Some k) = rise k

-- a phrase begins with a tok of this rise or below
abbrev pub top : Phrase → ℕ
top p.Primary = 0
top p.Postfix = 0
top p.Generator = 0
top p.Minus = 1
top p.Product = 1
top p.Sum = 1
top p.Comparison = 1
top p.Not = 2
top p.And = 2
top p.Or = 2
top p.Expr = 3
top p.Block = 4
top p.Body = 4
top p.Stmt = 5
top p.Clause = 5
top p.Part = 6
top p.Arm = 7
top p.Pattern = 7
