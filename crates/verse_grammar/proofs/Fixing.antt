-- A fixed tok has its kind, and a tok of that kind is it.
use Rattle.std.proofs.Common.{◌≡◌, ◌≢◌, Option, Some, None, refl, ap, ◌∙◌}
use Rattle.verse_lex.specs.declared.tokens.Word.{Word}
use Rattle.verse_lex.specs.declared.tokens.Word.TheVariants as w
use Rattle.verse_lex.specs.declared.tokens.Mark.{Mark}
use Rattle.verse_lex.specs.declared.tokens.Mark.TheVariants as m
use Rattle.verse_lex.specs.declared.tokens.TokenKind.TheVariants as token
use Rattle.verse_layout.specs.declared.toks.TokKind.{TokKind}
use Rattle.verse_layout.specs.declared.toks.TokKind.TheVariants as tok
use Rattle.verse_grammar.specs.Starts.{kind_of, fixed_at, fixed_mark}
use Rattle.verse_grammar.specs.declared.starts.Fixed.{Fixed}
use Rattle.verse_grammar.specs.declared.starts.Fixed.TheVariants as fixed_tok

-- the kind of what was found, where something was
abbrev Stands : TokKind → Option Fixed → Type 0
Stands k None = Unit {0}
Stands k (Some f) = k ≡ kind_of f

stands_word : (x : Word) → Stands (tok.Plain (token.Word x)) (fixed_at (tok.Plain (token.Word x)))
stands_word w.Array = tt
stands_word w.And = tt
stands_word w.Block = tt
stands_word w.Branch = tt
stands_word w.Break = tt
stands_word w.Case = tt
stands_word w.Char = tt
stands_word w.Class = refl
stands_word w.Defer = refl
stands_word w.Else = refl
stands_word w.Enum = refl
stands_word w.Event = tt
stands_word w.False = tt
stands_word w.For = tt
stands_word w.If = refl
stands_word w.Inf = tt
stands_word w.Int = tt
stands_word w.Logic = tt
stands_word w.Loop = tt
stands_word w.Map = tt
stands_word w.Not = refl
stands_word w.Option = tt
stands_word w.Or = tt
stands_word w.Race = tt
stands_word w.Return = tt
stands_word w.Rush = tt
stands_word w.This = tt
stands_word w.Set = tt
stands_word w.Sleep = tt
stands_word w.Spawn = tt
stands_word w.String = tt
stands_word w.Sync = tt
stands_word w.Task = tt
stands_word w.Then = refl
stands_word w.True = tt
stands_word w.Tuple = tt
stands_word w.Using = tt
stands_word w.Var = refl
stands_word w.Void = tt
stands_word w.Wild = tt

stands_mark : (x : Mark) → Stands (tok.Plain (token.Mark x)) (fixed_mark x)
stands_mark m.Define = refl
stands_mark m.Colon = refl
stands_mark m.FatArrow = refl
stands_mark m.Equals = refl
stands_mark m.Differs = tt
stands_mark m.AtMost = tt
stands_mark m.AtLeast = tt
stands_mark m.Below = refl
stands_mark m.Above = refl
stands_mark m.PlusEquals = tt
stands_mark m.Plus = tt
stands_mark m.MinusEquals = tt
stands_mark m.Arrow = refl
stands_mark m.Minus = refl
stands_mark m.TimesEquals = tt
stands_mark m.Times = tt
stands_mark m.Slash = refl
stands_mark m.DotDot = refl
stands_mark m.Dot = refl
stands_mark m.Comma = refl
stands_mark m.Semicolon = tt
stands_mark m.RoundOpen = refl
stands_mark m.RoundClose = refl
stands_mark m.SquareOpen = tt
stands_mark m.SquareClose = refl
stands_mark m.BraceOpen = tt
stands_mark m.BraceClose = tt
stands_mark m.Question = tt

stands : (k : TokKind) → Stands k (fixed_at k)
stands (tok.Plain token.Name) = refl
stands (tok.Plain (token.Word x)) = stands_word x
stands (tok.Plain token.LeftOut) = tt
stands (tok.Plain (token.Int n)) = tt
stands (tok.Plain (token.Dec n)) = tt
stands (tok.Plain (token.Char n)) = tt
stands (tok.Plain token.Text) = tt
stands (tok.Plain token.TextOpen) = tt
stands (tok.Plain token.TextMid) = refl
stands (tok.Plain token.TextClose) = refl
stands (tok.Plain (token.Mark x)) = stands_mark x
stands tok.Open = refl
stands tok.Sep = refl
stands tok.Close = refl

pub fixed_kind : (k : TokKind) (f : Fixed) → fixed_at k ≡ Some f → k ≡ kind_of f
fixed_kind k f h = rw h at (stands k)

pub kind_fixed : (f : Fixed) → fixed_at (kind_of f) ≡ Some f
kind_fixed fixed_tok.Name = refl
kind_fixed fixed_tok.TextMid = refl
kind_fixed fixed_tok.TextClose = refl
kind_fixed fixed_tok.Open = refl
kind_fixed fixed_tok.Sep = refl
kind_fixed fixed_tok.Close = refl
kind_fixed fixed_tok.Class = refl
kind_fixed fixed_tok.Defer = refl
kind_fixed fixed_tok.Else = refl
kind_fixed fixed_tok.Enum = refl
kind_fixed fixed_tok.If = refl
kind_fixed fixed_tok.Not = refl
kind_fixed fixed_tok.Then = refl
kind_fixed fixed_tok.Var = refl
kind_fixed fixed_tok.Define = refl
kind_fixed fixed_tok.Colon = refl
kind_fixed fixed_tok.FatArrow = refl
kind_fixed fixed_tok.Equals = refl
kind_fixed fixed_tok.Below = refl
kind_fixed fixed_tok.Above = refl
kind_fixed fixed_tok.Arrow = refl
kind_fixed fixed_tok.Minus = refl
kind_fixed fixed_tok.Slash = refl
kind_fixed fixed_tok.DotDot = refl
kind_fixed fixed_tok.Dot = refl
kind_fixed fixed_tok.Comma = refl
kind_fixed fixed_tok.RoundOpen = refl
kind_fixed fixed_tok.RoundClose = refl
kind_fixed fixed_tok.SquareClose = refl

pub other_kind : (k : TokKind) (f : Fixed) → fixed_at k ≢ Some f → k ≢ kind_of f
other_kind k f h e = h (ap fixed_at e ∙ kind_fixed f)
