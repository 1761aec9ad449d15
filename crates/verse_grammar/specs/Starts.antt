-- What the first tok of a phrase says of it.
use Rattle.std.specs.Prelude.{Bool, true, false, ℤ, Option, Some, None}
use Rattle.std.specs.Option.{is_some}
use Rattle.verse_lex.specs.declared.tokens.Word.{Word}
use Rattle.verse_lex.specs.declared.tokens.Word.TheVariants as w
use Rattle.verse_lex.specs.declared.tokens.Mark.{Mark}
use Rattle.verse_lex.specs.declared.tokens.Mark.TheVariants as m
use Rattle.verse_lex.specs.declared.tokens.TokenKind.TheVariants as token
use Rattle.verse_layout.specs.declared.toks.TokKind.{TokKind}
use Rattle.verse_layout.specs.declared.toks.TokKind.TheVariants as tok
use Rattle.verse_tree.specs.declared.exprs.Operator.{Operator}
use Rattle.verse_tree.specs.declared.exprs.Operator.TheVariants as operator
use Rattle.verse_tree.specs.declared.exprs.Comparison.{Comparison}
use Rattle.verse_tree.specs.declared.exprs.Comparison.TheVariants as comparison
use Rattle.verse_tree.specs.declared.exprs.Assign.{Assign}
use Rattle.verse_tree.specs.declared.exprs.Assign.TheVariants as assign
use Rattle.verse_grammar.specs.declared.starts.TypeStart.{TypeStart}
use Rattle.verse_grammar.specs.declared.starts.TypeStart.TheVariants as type
use Rattle.verse_grammar.specs.declared.starts.PrimaryStart.{PrimaryStart}
use Rattle.verse_grammar.specs.declared.starts.PrimaryStart.TheVariants as primary
use Rattle.verse_grammar.specs.declared.starts.PostfixStart.{PostfixStart}
use Rattle.verse_grammar.specs.declared.starts.PostfixStart.TheVariants as postfix
use Rattle.verse_grammar.specs.declared.starts.StmtStart.{StmtStart}
use Rattle.verse_grammar.specs.declared.starts.StmtStart.TheVariants as stmt
use Rattle.verse_grammar.specs.declared.starts.PatternStart.{PatternStart}
use Rattle.verse_grammar.specs.declared.starts.PatternStart.TheVariants as pattern
use Rattle.verse_grammar.specs.declared.starts.ItemStart.{ItemStart}
use Rattle.verse_grammar.specs.declared.starts.ItemStart.TheVariants as item
use Rattle.verse_grammar.specs.declared.starts.Duration.{Duration}
use Rattle.verse_grammar.specs.declared.starts.Duration.TheVariants as duration
use Rattle.verse_grammar.specs.declared.starts.Fixed.{Fixed}
use Rattle.verse_grammar.specs.declared.starts.Fixed.TheVariants as fixed_tok

abbrev pub primary_word : Word → Option PrimaryStart
primary_word w.True = Some primary.True
primary_word w.False = Some primary.False
primary_word w.This = Some primary.This
primary_word w.Array = Some primary.Array
primary_word w.Map = Some primary.Map
primary_word w.Option = Some primary.Option
primary_word w.Logic = Some primary.Logic
primary_word w.Event = Some primary.Event
primary_word w.For = Some primary.For
primary_word w.Loop = Some primary.Loop
primary_word w.Block = Some primary.Block
primary_word w.Branch = Some primary.Branch
primary_word w.Sync = Some primary.Sync
primary_word w.Race = Some primary.Race
primary_word w.Rush = Some primary.Rush
primary_word w.Case = Some primary.Case
primary_word w.Spawn = Some primary.Spawn
primary_word w.Sleep = Some primary.Sleep
primary_word _ = None

abbrev pub type_start : TokKind → Option TypeStart
type_start (tok.Plain (token.Word w.Int)) = Some type.Int
type_start (tok.Plain (token.Word w.Logic)) = Some type.Logic
type_start (tok.Plain (token.Word w.Char)) = Some type.Char
type_start (tok.Plain (token.Word w.String)) = Some type.String
type_start (tok.Plain (token.Word w.Void)) = Some type.Void
type_start (tok.Plain (token.Word w.Tuple)) = Some type.Tuple
type_start (tok.Plain (token.Word w.Task)) = Some type.Task
type_start (tok.Plain (token.Word w.Event)) = Some type.Event
type_start (tok.Plain token.Name) = Some type.Name
type_start (tok.Plain (token.Mark m.Question)) = Some type.Option
type_start (tok.Plain (token.Mark m.SquareOpen)) = Some type.Bracket
type_start _ = None

abbrev pub primary_start : TokKind → Option PrimaryStart
primary_start (tok.Plain (token.Int n)) = Some (primary.Int n)
primary_start (tok.Plain (token.Char c)) = Some (primary.Char c)
primary_start (tok.Plain token.Text) = Some primary.Text
primary_start (tok.Plain token.TextOpen) = Some primary.TextOpen
primary_start (tok.Plain token.Name) = Some primary.Name
primary_start (tok.Plain (token.Mark m.RoundOpen)) = Some primary.Round
primary_start (tok.Plain (token.Word word)) = primary_word word
primary_start _ = None

abbrev pub postfix_start : TokKind → Option PostfixStart
postfix_start (tok.Plain (token.Mark m.RoundOpen)) = Some postfix.Round
postfix_start (tok.Plain (token.Mark m.SquareOpen)) = Some postfix.Square
postfix_start (tok.Plain (token.Mark m.Dot)) = Some postfix.Dot
postfix_start (tok.Plain (token.Mark m.Question)) = Some postfix.Question
postfix_start _ = None

abbrev pub stmt_start : TokKind → Option StmtStart
stmt_start (tok.Plain token.Name) = Some stmt.Name
stmt_start (tok.Plain (token.Word w.Var)) = Some stmt.Var
stmt_start (tok.Plain (token.Word w.Set)) = Some stmt.Set
stmt_start (tok.Plain (token.Word w.Return)) = Some stmt.Return
stmt_start (tok.Plain (token.Word w.Break)) = Some stmt.Break
stmt_start _ = None

abbrev pub pattern_start : TokKind → Option PatternStart
pattern_start (tok.Plain (token.Int n)) = Some (pattern.Int n)
pattern_start (tok.Plain (token.Char c)) = Some (pattern.Char c)
pattern_start (tok.Plain token.Text) = Some pattern.Text
pattern_start (tok.Plain token.Name) = Some pattern.Name
pattern_start (tok.Plain (token.Mark m.Minus)) = Some pattern.Minus
pattern_start (tok.Plain (token.Word w.True)) = Some pattern.True
pattern_start (tok.Plain (token.Word w.False)) = Some pattern.False
pattern_start (tok.Plain (token.Word w.Wild)) = Some pattern.Wild
pattern_start _ = None

abbrev pub item_start : TokKind → Option ItemStart
item_start (tok.Plain (token.Word w.Using)) = Some item.Using
item_start (tok.Plain token.Name) = Some item.Name
item_start _ = None

abbrev pub sum_operator : TokKind → Option Operator
sum_operator (tok.Plain (token.Mark m.Plus)) = Some operator.Add
sum_operator (tok.Plain (token.Mark m.Minus)) = Some operator.Sub
sum_operator _ = None

abbrev pub product_operator : TokKind → Option Operator
product_operator (tok.Plain (token.Mark m.Times)) = Some operator.Mul
product_operator (tok.Plain (token.Mark m.Slash)) = Some operator.Div
product_operator _ = None

abbrev pub comparison_at : TokKind → Option Comparison
comparison_at (tok.Plain (token.Mark m.Equals)) = Some comparison.Equal
comparison_at (tok.Plain (token.Mark m.Differs)) = Some comparison.Differs
comparison_at (tok.Plain (token.Mark m.Below)) = Some comparison.Below
comparison_at (tok.Plain (token.Mark m.AtMost)) = Some comparison.AtMost
comparison_at (tok.Plain (token.Mark m.Above)) = Some comparison.Above
comparison_at (tok.Plain (token.Mark m.AtLeast)) = Some comparison.AtLeast
comparison_at _ = None

abbrev pub assign_at : TokKind → Option Assign
assign_at (tok.Plain (token.Mark m.Equals)) = Some assign.Set
assign_at (tok.Plain (token.Mark m.PlusEquals)) = Some assign.Add
assign_at (tok.Plain (token.Mark m.MinusEquals)) = Some assign.Sub
assign_at (tok.Plain (token.Mark m.TimesEquals)) = Some assign.Mul
assign_at _ = None

abbrev pub duration_at : TokKind → Option Duration
duration_at (tok.Plain (token.Dec milliseconds)) = Some (duration.Milliseconds milliseconds)
duration_at (tok.Plain (token.Word w.Inf)) = Some duration.Forever
duration_at _ = None

abbrev pub int_at : TokKind → Option ℤ
int_at (tok.Plain (token.Int n)) = Some n
int_at _ = None

abbrev pub begins_expr : TokKind → Bool
begins_expr (tok.Plain (token.Word w.If)) = true
begins_expr (tok.Plain (token.Word w.Not)) = true
begins_expr (tok.Plain (token.Mark m.Minus)) = true
begins_expr kind = is_some (primary_start kind)

-- the kind of a fixed tok
abbrev pub kind_of : Fixed → TokKind
kind_of fixed_tok.Open = tok.Open
kind_of fixed_tok.Sep = tok.Sep
kind_of fixed_tok.Close = tok.Close
kind_of fixed_tok.Name = tok.Plain token.Name
kind_of fixed_tok.TextMid = tok.Plain token.TextMid
kind_of fixed_tok.TextClose = tok.Plain token.TextClose
kind_of fixed_tok.Class = tok.Plain (token.Word w.Class)
kind_of fixed_tok.Defer = tok.Plain (token.Word w.Defer)
kind_of fixed_tok.Else = tok.Plain (token.Word w.Else)
kind_of fixed_tok.Enum = tok.Plain (token.Word w.Enum)
kind_of fixed_tok.If = tok.Plain (token.Word w.If)
kind_of fixed_tok.Not = tok.Plain (token.Word w.Not)
kind_of fixed_tok.Then = tok.Plain (token.Word w.Then)
kind_of fixed_tok.Var = tok.Plain (token.Word w.Var)
kind_of fixed_tok.Define = tok.Plain (token.Mark m.Define)
kind_of fixed_tok.Colon = tok.Plain (token.Mark m.Colon)
kind_of fixed_tok.FatArrow = tok.Plain (token.Mark m.FatArrow)
kind_of fixed_tok.Equals = tok.Plain (token.Mark m.Equals)
kind_of fixed_tok.Below = tok.Plain (token.Mark m.Below)
kind_of fixed_tok.Above = tok.Plain (token.Mark m.Above)
kind_of fixed_tok.Arrow = tok.Plain (token.Mark m.Arrow)
kind_of fixed_tok.Minus = tok.Plain (token.Mark m.Minus)
kind_of fixed_tok.Slash = tok.Plain (token.Mark m.Slash)
kind_of fixed_tok.DotDot = tok.Plain (token.Mark m.DotDot)
kind_of fixed_tok.Dot = tok.Plain (token.Mark m.Dot)
kind_of fixed_tok.Comma = tok.Plain (token.Mark m.Comma)
kind_of fixed_tok.RoundOpen = tok.Plain (token.Mark m.RoundOpen)
kind_of fixed_tok.RoundClose = tok.Plain (token.Mark m.RoundClose)
kind_of fixed_tok.SquareClose = tok.Plain (token.Mark m.SquareClose)

abbrev pub fixed_mark : Mark → Option Fixed
fixed_mark m.Define = Some fixed_tok.Define
fixed_mark m.Colon = Some fixed_tok.Colon
fixed_mark m.FatArrow = Some fixed_tok.FatArrow
fixed_mark m.Equals = Some fixed_tok.Equals
fixed_mark m.Below = Some fixed_tok.Below
fixed_mark m.Above = Some fixed_tok.Above
fixed_mark m.Arrow = Some fixed_tok.Arrow
fixed_mark m.Minus = Some fixed_tok.Minus
fixed_mark m.Slash = Some fixed_tok.Slash
fixed_mark m.DotDot = Some fixed_tok.DotDot
fixed_mark m.Dot = Some fixed_tok.Dot
fixed_mark m.Comma = Some fixed_tok.Comma
fixed_mark m.RoundOpen = Some fixed_tok.RoundOpen
fixed_mark m.RoundClose = Some fixed_tok.RoundClose
fixed_mark m.SquareClose = Some fixed_tok.SquareClose
fixed_mark _ = None

abbrev pub fixed_at : TokKind → Option Fixed
fixed_at tok.Open = Some fixed_tok.Open
fixed_at tok.Sep = Some fixed_tok.Sep
fixed_at tok.Close = Some fixed_tok.Close
fixed_at (tok.Plain token.Name) = Some fixed_tok.Name
fixed_at (tok.Plain token.TextMid) = Some fixed_tok.TextMid
fixed_at (tok.Plain token.TextClose) = Some fixed_tok.TextClose
fixed_at (tok.Plain (token.Word w.Class)) = Some fixed_tok.Class
fixed_at (tok.Plain (token.Word w.Defer)) = Some fixed_tok.Defer
fixed_at (tok.Plain (token.Word w.Else)) = Some fixed_tok.Else
fixed_at (tok.Plain (token.Word w.Enum)) = Some fixed_tok.Enum
fixed_at (tok.Plain (token.Word w.If)) = Some fixed_tok.If
fixed_at (tok.Plain (token.Word w.Not)) = Some fixed_tok.Not
fixed_at (tok.Plain (token.Word w.Then)) = Some fixed_tok.Then
fixed_at (tok.Plain (token.Word w.Var)) = Some fixed_tok.Var
fixed_at (tok.Plain (token.Mark m)) = fixed_mark m
fixed_at _ = None
